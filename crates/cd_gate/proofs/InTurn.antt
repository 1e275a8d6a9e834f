-- What a pass in its turn knows, entry by entry.
use Rattle.std.proofs.Common.{◌≡◌, ℕ, Bool, true, false, true≢false, cond, List, [], ◌∷◌, ◌++◌, refl, sym, ap, ◌∙◌, subst, ne_eqb}
use Rattle.std.proofs.lemmas.List.{append-nil, append_assoc, append_cancel_left}
use mathlib.Core.List.{IsPrefix}
use Rattle.cd_legal.specs.declared.entry.Entry.{Entry}
use Rattle.cd_legal.specs.declared.entry.Entry.TheVariants.{Begin, Finish, Retire, Draft, Made, Started}
use Rattle.cd_legal.specs.declared.entry.Signed.{Signed}
use Rattle.cd_legal.specs.declared.state.State.{State}
use Rattle.cd_legal.specs.Entry.{signed, entries}
use Rattle.cd_legal.specs.State.{has_number}
use Rattle.cd_legal.specs.Laws.{core_at, is_core}
use Rattle.cd_legal.specs.Legal.{allowed, legal_from, state_at, may_retire, IsLegal}
use Rattle.cd_legal.specs.Owing.{Owes, owes_by}
use Rattle.cd_legal.specs.Signing.{IsHistory}
use Rattle.cd_legal.specs.Whole.{nothing_left}
use Rattle.cd_legal.proofs.Cores.{core-append}
use Rattle.cd_legal.proofs.Histories.{first, second}
use Rattle.cd_legal.proofs.Logs.{state-snoc, mine-own, legal-snoc, legal-back, history-front}
use Rattle.cd_legal.proofs.Owing.{owes-own}
use Rattle.cd_legal.proofs.Serials.{legal-agree}
use Rattle.cd_gate.specs.declared.view.View.{View}
use Rattle.cd_gate.specs.Duties.{duties_after, without_number}
use Rattle.cd_gate.specs.Knowing.{Knows, is_calm}
use Rattle.cd_gate.specs.Steps.{with_turn, noted}
use Rattle.cd_gate.specs.Tables.{FoundInTurn, Finds}
use Rattle.cd_gate.proofs.Calm.{left_calm}
use Rattle.cd_gate.proofs.Entries.{left_same}
use Rattle.cd_gate.proofs.Numbers.{without-was, without-none, off}
use Rattle.cd_gate.proofs.Retiring.{retires, retirable-stays}

-- ---- while requests begin and end

requests_retire_none : (n : ℕ) (e : Entry) → is_core e ≡ false → retires n e ≡ false
requests_retire_none n (Begin k m) is = refl
requests_retire_none n (Finish k) is = refl
requests_retire_none n e is = absurd (true≢false is)

skips : (b : Bool) (x : Signed) (rest : List Signed) → cond b (x ∷ rest) rest ≡ [] → (b ≡ false) × (rest ≡ [])
skips true x rest is = absurd (let h : x ∷ rest ≡ [] = is in cc)
skips false x rest is = (refl, is)

stays_along : (n : ℕ) (before more : List Signed) → IsLegal before → legal_from (state_at before) (entries more) ≡ true → core_at more ≡ [] → may_retire (state_at before) n ≡ true → may_retire (state_at (before ++ more)) n ≡ true
stays_along n before [] is legal none may = ap (λ (b : List Signed). may_retire (state_at b) n) (append-nil before) ∙ may
stays_along n before (x ∷ xs) is legal none may =
    let allows = first (allowed (state_at before) x.entry) _ legal in
    let q = skips (is_core x.entry) x (core_at xs) none in
    let now = ap (λ (s : State). may_retire s n) (state-snoc before x) ∙ retirable-stays (state_at before) n x.entry (legal-agree (entries before) is) allows (requests_retire_none n x.entry q.0) may in
    ap (λ (b : List Signed). may_retire (state_at b) n) (sym (append_assoc before (x ∷ []) xs))
    ∙ stays_along n (before ++ x ∷ []) xs (legal-snoc before x is allows)
    (ap (λ (s : State). legal_from s (entries xs)) (state-snoc before x) ∙ second (allowed (state_at before) x.entry) _ legal) q.1 now

-- what may be retired may be so whatever requests begin and end
pub retirable_on : (n : ℕ) (seen log : List Signed) → IsPrefix seen log → IsHistory log → core_at log ≡ core_at seen → may_retire (state_at seen) n ≡ true → may_retire (state_at log) n ≡ true
retirable_on n seen log p is same may =
    let more : List Signed = p.0 in
    let whole : seen ++ more ≡ log = p.1 in
    let none : core_at more ≡ [] = append_cancel_left (core_at seen) (core_at more) [] (sym (core-append seen more) ∙ (ap core_at whole ∙ (same ∙ sym (append-nil (core_at seen))))) in
    ap (λ (l : List Signed). may_retire (state_at l) n) (sym whole)
    ∙ stays_along n seen more (history-front seen log p is).is_legal (legal-back seen more (subst IsLegal (sym whole) is.is_legal)) none may

-- ---- an entry of the turn

-- a duty that is left was one, and the entry does not retire it
left_duty : (n : ℕ) (duties : List ℕ) (e : Entry) → has_number n (duties_after duties e) ≡ true → (has_number n duties ≡ true) × (retires n e ≡ false)
left_duty n duties (Retire m) is = (without-was n m duties is, ne_eqb n m (λ same. off (sym (without-none m duties) ∙ (ap (λ (z : ℕ). has_number z (without_number m duties)) (sym same) ∙ is))))
left_duty n duties e is = (is, refl)

module _ {T : Type 0} where
  -- what a pass finds that takes the turn
  pub finds : (stands : T → T → List Signed → Type 0) (o b : T) (v : View T) (log : List Signed) → Finds stands o v log b → Knows (with_turn v log)
  finds stands o b v log f = record { history = f.found.history; own = f.found.own; owes = f.found.owes; duties = f.duties }

  module _ (v : View T) (log : List Signed) (e : Entry) (f : FoundInTurn v log) (now : IsHistory (log ++ signed v.number e ∷ [])) where
    may_follow_log : allowed (state_at log) e ≡ true
    may_follow_log = first (allowed (state_at log) e) _ (legal-back log (signed v.number e ∷ []) now.is_legal)

    -- one entry more
    pub knows_noted : Knows v → Knows (noted v log e)
    knows_noted k = record {
      history = now;
      own = mine-own log v.number e ∙ ap (λ (l : List Signed). l ++ signed v.number e ∷ []) f.found.own;
      owes = owes-own v.number log e ∙ ap (λ (o : Owes). owes_by o e) f.found.owes;
      duties = λ n is. let q = left_duty n v.duties e is in
          ap (λ (s : State). may_retire s n) (state-snoc log (signed v.number e))
          ∙ retirable-stays (state_at log) n e (legal-agree (entries log) f.found.history.is_legal) may_follow_log q.1
          (retirable_on n v.seen log f.found.seen f.found.history f.core_is (k.duties n q.0));
    }

    -- one that is calm
    pub calm : is_calm e ≡ true → nothing_left (state_at v.seen) ≡ true → ((noted v log e).duties ≡ v.duties) × (nothing_left (state_at (noted v log e).seen) ≡ true)
    calm is left = (
      same_duties v.duties e is,
      ap nothing_left (state-snoc log (signed v.number e))
          ∙ left_calm (state_at log) e (legal-agree (entries log) f.found.history.is_legal) may_follow_log is (left_same v.seen log f.core_is ∙ left),
    )
      where
        same_duties : (duties : List ℕ) (e : Entry) → is_calm e ≡ true → duties_after duties e ≡ duties
        same_duties duties (Draft d tree plan) is = refl
        same_duties duties (Made d i taken failed) is = refl
        same_duties duties (Started d a taken failed) is = refl
        same_duties duties e is = absurd (off is)
