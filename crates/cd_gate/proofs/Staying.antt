-- What the entries of others leave of a draft.
use Rattle.std.proofs.Common.{◌≡◌, ℕ, ◌==◌, Bool, true, false, cond, List, [], ◌∷◌, ◌++◌, slice_get, Option, Some, None, refl, sym, ap, subst, ◌∙◌, eq-eqb, arith}
use Rattle.std.proofs.lemmas.Bool.{eqb-true}
use Rattle.std.proofs.lemmas.List.{append-nil, append_assoc, append_cancel_left}
use mathlib.Core.List.{IsPrefix}
use Rattle.cd_legal.specs.declared.entry.Entry.{Entry}
use Rattle.cd_legal.specs.declared.entry.Entry.TheVariants.{Draft, Made, Started, Publish, Abandon, Stopped, Cleaned}
use Rattle.cd_legal.specs.declared.entry.Signed.{Signed}
use Rattle.cd_legal.specs.declared.part.Part.TheVariants.{Instance, App}
use Rattle.cd_legal.specs.declared.state.State.{State}
use Rattle.cd_legal.specs.declared.state.Drafted.{Drafted}
use Rattle.cd_legal.specs.declared.state.Life.{Life}
use Rattle.cd_legal.specs.declared.state.Life.TheVariants.{Live, Published, Abandoned}
use Rattle.cd_legal.specs.Entry.{mine, entries}
use Rattle.cd_legal.specs.State.{holds, is_live, may_stop_apps, may_clean_instances, new_draft, one_opened, one_ended}
use Rattle.cd_legal.specs.Legal.{allowed, after, legal_from, state_at, may_stop, may_clean}
use Rattle.cd_legal.specs.Owing.{Owes, owes_of}
use Rattle.cd_legal.specs.Signing.{may_sign, are_signed_from, is_live_in, IsHistory}
use Rattle.cd_legal.proofs.Facts.{stops, cleans}
use Rattle.cd_legal.proofs.Histories.{first, second}
use Rattle.cd_legal.proofs.Leaving.{slice_get-push_other}
use Rattle.cd_legal.proofs.Logs.{state-snoc, legal-back, mine-append, history-snoc, history-front}
use Rattle.cd_legal.proofs.Owing.{owes-stays}
use Rattle.cd_legal.proofs.Owners.{live-owned}
use Rattle.cd_legal.proofs.Places.{get_change_other, holds_within}
use Rattle.cd_gate.specs.declared.view.View.{View}
use Rattle.cd_gate.specs.Tables.{Found}

owes_is : (j : ℕ) (o : Option ℕ) → holds (λ own. own == j) o ≡ true → o ≡ Some j
owes_is j None is = absurd (let h : false ≡ true = is in cc)
owes_is j (Some own) is = ap (λ (z : ℕ). Some z) (eqb-true own j is)

not_stopped : (serial : ℕ) (l : Life) → may_stop_apps serial l ≡ true → is_live l ≡ true → false ≡ true
not_stopped serial Live may live = may
not_stopped serial (Published s) may live = live
not_stopped serial Abandoned may live = live

not_cleaned : (retired : List ℕ) (l : Life) → may_clean_instances retired l ≡ true → is_live l ≡ true → false ≡ true
not_cleaned retired Live may live = may
not_cleaned retired (Published s) may live = live
not_cleaned retired Abandoned may live = live

not_both : (test : Drafted → Bool) → ((x : Drafted) → test x ≡ true → is_live x.life ≡ true → false ≡ true) → (o : Option Drafted) → holds test o ≡ true → holds (λ x. is_live x.life) o ≡ true → false ≡ true
not_both test apart None is live = is
not_both test apart (Some x) is live = apart x is live

wrong : false ≡ true → ⊥
wrong e = absurd (let h : false ≡ true = e in cc)

-- an entry of a pass that does not own the draft
step : (s : State) (o : Owes) (by d : ℕ) (e : Entry) → allowed s e ≡ true → may_sign by o e ≡ true → (o.draft ≡ Some d → ⊥) → is_live_in s d ≡ true → slice_get (after s e).drafts d ≡ slice_get s.drafts d
step s o by d (Draft j tree plan) may signs apart live =
    slice_get-push_other s.drafts (new_draft tree plan) d (λ e. absurd (let h = holds_within (λ (x : Drafted). is_live x.life) s.drafts d live in omega arith))
step s o by d (Made j i taken failed) may signs apart live = get_change_other (one_opened Instance failed) s.drafts j d (λ e. apart (owes_is j o.draft signs ∙ ap (λ (z : ℕ). Some z) (sym e)))
step s o by d (Started j a taken failed) may signs apart live = get_change_other (one_opened App failed) s.drafts j d (λ e. apart (owes_is j o.draft signs ∙ ap (λ (z : ℕ). Some z) (sym e)))
step s o by d (Publish j n from c) may signs apart live = get_change_other (λ (x : Drafted). record x { life = Published n }) s.drafts j d (λ e. apart (owes_is j o.draft signs ∙ ap (λ (z : ℕ). Some z) (sym e)))
step s o by d (Abandon j) may signs apart live = get_change_other (λ (x : Drafted). record x { life = Abandoned }) s.drafts j d (λ e. apart (owes_is j o.draft signs ∙ ap (λ (z : ℕ). Some z) (sym e)))
step s o by d (Stopped j a) may signs apart live =
    get_change_other (one_ended App) s.drafts j d
    (λ e. wrong (not_both (may_stop a s.serial) (λ x m l. not_stopped s.serial x.life (stops a s.serial x m).over l) (slice_get s.drafts d)
    (ap (λ (z : ℕ). holds (may_stop a s.serial) (slice_get s.drafts z)) e ∙ may) live))
step s o by d (Cleaned j i) may signs apart live =
    get_change_other (one_ended Instance) s.drafts j d
    (λ e. wrong (not_both (may_clean i s.retired) (λ x m l. not_cleaned s.retired x.life (cleans i s.retired x m).done l) (slice_get s.drafts d)
    (ap (λ (z : ℕ). holds (may_clean i s.retired) (slice_get s.drafts z)) e ∙ may) live))
step s o by d e may signs apart live = refl

skips : (b : Bool) (x : Signed) (m : List Signed) → cond b (x ∷ m) m ≡ [] → (b ≡ false) × (m ≡ [])
skips true x m is = absurd (let h : x ∷ m ≡ [] = is in cc)
skips false x m is = (refl, is)

signed_from-back : (before xs ys : List Signed) → are_signed_from before (xs ++ ys) ≡ true → are_signed_from (before ++ xs) ys ≡ true
signed_from-back before [] ys all = ap (λ (b : List Signed). are_signed_from b ys) (append-nil before) ∙ all
signed_from-back before (x ∷ xs) ys all =
    ap (λ (b : List Signed). are_signed_from b ys) (sym (append_assoc before (x ∷ []) xs))
    ∙ signed_from-back (before ++ x ∷ []) xs ys (second (may_sign x.by (owes_of x.by before) x.entry) _ all)

stays_from : (k d : ℕ) (before more : List Signed) → IsHistory before → legal_from (state_at before) (entries more) ≡ true → are_signed_from before more ≡ true → mine k more ≡ [] → (owes_of k before).draft ≡ Some d
    → slice_get (state_at (before ++ more)).drafts d ≡ slice_get (state_at before).drafts d
stays_from k d before [] is legal all none owns = ap (λ (b : List Signed). slice_get (state_at b).drafts d) (append-nil before)
stays_from k d before (x ∷ xs) is legal all none owns =
    let allows = first (allowed (state_at before) x.entry) _ legal in
    let signs = first (may_sign x.by (owes_of x.by before) x.entry) _ all in
    let apart = skips (x.by == k) x (mine k xs) none in
    let next : List Signed = before ++ x ∷ [] in
    let owners = live-owned before is in
    let alone : mine k (x ∷ []) ≡ [] = ap (λ (b : Bool). cond b (x ∷ []) []) apart.0 in
    ap (λ (b : List Signed). slice_get (state_at b).drafts d) (sym (append_assoc before (x ∷ []) xs))
    ∙ (stays_from k d next xs (history-snoc before x is allows signs)
    (ap (λ (s : State). legal_from s (entries xs)) (state-snoc before x) ∙ second (allowed (state_at before) x.entry) _ legal)
    (second (may_sign x.by (owes_of x.by before) x.entry) _ all) apart.1
    (ap (λ (o : Owes). o.draft) (owes-stays k before (x ∷ []) alone) ∙ owns)
    ∙ (ap (λ (s : State). slice_get s.drafts d) (state-snoc before x)
    ∙ step (state_at before) (owes_of x.by before) x.by d x.entry allows signs
    (λ e. absurd (let h = owners.one x.by k d e owns in let t : (x.by == k) ≡ true = eq-eqb x.by k h in let f : true ≡ false = sym t ∙ apart.0 in cc)) (owners.alive k d owns)))

-- the draft of a pass is as the pass has seen it
pub stays : (k d : ℕ) (front log : List Signed) → IsHistory log → IsPrefix front log → mine k log ≡ mine k front → (owes_of k log).draft ≡ Some d → slice_get (state_at log).drafts d ≡ slice_get (state_at front).drafts d
stays k d front log is p same owns =
    let more : List Signed = p.0 in
    let whole : front ++ more ≡ log = p.1 in
    let none : mine k more ≡ [] = append_cancel_left (mine k front) (mine k more) [] (sym (mine-append k front more) ∙ (ap (λ (l : List Signed). mine k l) whole ∙ (same ∙ sym (append-nil (mine k front))))) in
    let is' : IsHistory (front ++ more) = subst (λ (l : List Signed). IsHistory l) (sym whole) is in
    ap (λ (l : List Signed). slice_get (state_at l).drafts d) (sym whole)
    ∙ stays_from k d front more (history-front front log p is) (legal-back front more is'.is_legal) (signed_from-back [] front more is'.is_signed) none
    (sym (ap (λ (o : Owes). o.draft) (owes-stays k front more none)) ∙ (ap (λ (l : List Signed). (owes_of k l).draft) whole ∙ owns))

pub kept : {T : Type 0} (v : View T) (log : List Signed) (d : ℕ) → Found v log → v.draft ≡ Some d → slice_get (state_at log).drafts d ≡ slice_get (state_at v.seen).drafts d
kept v log d f has = stays v.number d v.seen log f.history f.seen (f.own ∙ sym f.own_seen) (ap (λ (w : Owes). w.draft) f.owes ∙ has)
