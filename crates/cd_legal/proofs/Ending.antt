-- How often a history stops and cleans what a holder names.
use Rattle.std.proofs.Common.{◌≡◌, ℕ, ◌+◌, ◌==◌, Bool, true, false, ◌&&◌, cond, nat_lt, nat_le, List, [], ◌∷◌, slice_get, Option, Some, None, refl, sym, ◌∙◌, arith}
use Rattle.std.proofs.lemmas.Bool.Decides.{nat_tests}
use Rattle.cd_outside.specs.declared.key.Key.{Key}
use Rattle.cd_outside.specs.declared.holder.Holder.{Holder}
use Rattle.cd_outside.specs.declared.holder.Pair.{Pair}
use Rattle.cd_outside.specs.Keys.{holder_eq, bool_eq}
use Rattle.cd_tree.specs.declared.tree.Tree.{Tree}
use Rattle.cd_legal.specs.declared.part.Part.{Part}
use Rattle.cd_legal.specs.declared.part.Part.TheVariants.{Instance, App}
use Rattle.cd_legal.specs.declared.plan.Plan.{Plan}
use Rattle.cd_legal.specs.declared.entry.Entry.{Entry}
use Rattle.cd_legal.specs.declared.entry.Entry.TheVariants.{Draft, Made, Started, Publish, Abandon, Stopped, Cleaned}
use Rattle.cd_legal.specs.declared.state.State.{State}
use Rattle.cd_legal.specs.declared.state.Drafted.{Drafted}
use Rattle.cd_legal.specs.State.{opening_state, holds, is_live, part_of, is_app, new_draft, one_opened, one_ended}
use Rattle.cd_legal.specs.Legal.{allowed, after, legal_from, legal, state_from, state_of, part_opened, may_open, may_stop, may_clean, is_complete}
use Rattle.cd_legal.specs.Steps.{may_end}
use Rattle.cd_legal.specs.Whole.{ended}
use Rattle.cd_legal.proofs.Histories.{first, second}
use Rattle.cd_legal.proofs.Facts.{stops, cleans, can}
use Rattle.cd_legal.proofs.Counting.{made_of, plus_none, counted, kept, pushed, one_more}
use Rattle.cd_legal.proofs.Sound.{is_sound, bound_of, are_sound, sound, sound_at, open_whole}

-- how many instances of a draft are cleaned, or apps stopped
abbrev pub ended_of : Bool → Drafted → ℕ
ended_of app x = cond app x.stopped x.cleaned

-- whether the place is among the last so many of those that were made
abbrev pub past : ℕ → ℕ → ℕ → ℕ
past place made over = cond (nat_lt place made && nat_le made (place + over)) 1 0

abbrev pub ended_by : Bool → ℕ → Option Drafted → ℕ
ended_by app place None = 0
ended_by app place (Some x) = past place (made_of app x) (ended_of app x)

-- whether the state has ended what the holder names
abbrev pub ended_at : Holder → State → ℕ
ended_at h s = ended_by h.app h.place (slice_get s.drafts h.draft)

-- ---- entries that end nothing

none_past : (p : ℕ) → past p 0 0 ≡ 0
none_past p = grind (arith, nat_tests)

-- of a new draft nothing is ended
new_past : (app : Bool) (p : ℕ) (tree : Tree) (plan : Plan) → ended_by app p (Some (new_draft tree plan)) ≡ 0
new_past true p tree plan = none_past p
new_past false p tree plan = none_past p

not_past : (p m e : ℕ) → e ≡ 0 → past p m e ≡ 0
not_past p m e none = grind (arith, nat_tests)

-- where nothing is ended, one more made ends nothing
still_none : (p m e : ℕ) → e ≡ 0 → past p (m + 1) e ≡ past p m e
still_none p m e none = not_past p (m + 1) e none ∙ sym (not_past p m e none)

-- one more opened of a sound draft
opened_none : (bound : ℕ) (part : Part) (i taken : ℕ) (failed : Option Key) (ps : List Pair) (app : Bool) (p : ℕ) (x : Drafted) → (is_sound bound x && may_open part i taken failed ps x) ≡ true → ended_by app p (Some (one_opened part failed x)) ≡ ended_by app p (Some x)
opened_none bound Instance i taken failed ps true p x m = refl
opened_none bound Instance i taken failed ps false p x m = still_none p x.made x.cleaned (open_whole bound Instance i taken failed ps x m).1
opened_none bound App i taken failed ps true p x m = still_none p x.started x.stopped (open_whole bound App i taken failed ps x m).0
opened_none bound App i taken failed ps false p x m = refl

-- ---- entries that end one more

-- one more is ended, and it is the last one that was not
past_more : (p a e m : ℕ) → a + 1 + e ≡ m → past p m (e + 1) ≡ cond (p == a) 1 0 + past p m e
past_more p a e m is = grind (arith, nat_tests)

-- place i is ended
ended_one : (part : Part) (i : ℕ) (s : State) (app : Bool) (p : ℕ) (x : Drafted) → may_end part i s x ≡ true → ended_by app p (Some (one_ended part x)) ≡ cond (bool_eq app (is_app part) && (p == i)) 1 0 + ended_by app p (Some x)
ended_one Instance i s true p x m = plus_none _ _ refl
ended_one Instance i s false p x m = past_more p i x.cleaned x.made (cleans i s.retired x m).next
ended_one App i s true p x m = past_more p i x.stopped x.started (stops i s.serial x m).next
ended_one App i s false p x m = plus_none _ _ refl

-- ---- a history

-- opening ends nothing
opened : (h : Holder) (s : State) (part : Part) (d i taken : ℕ) (failed : Option Key) → are_sound s ≡ true → holds (may_open part i taken failed s.pairs) (slice_get s.drafts d) ≡ true → ended_at h (part_opened part d i taken failed s) ≡ 0 + ended_at h s
opened h s part d i taken failed all may = plus_none _ _ (kept (ended_by h.app h.place) (λ x. is_sound (bound_of s) x && may_open part i taken failed s.pairs x) _ (opened_none (bound_of s) part i taken failed s.pairs h.app h.place) s.drafts d h.draft (sound_at s d (may_open part i taken failed s.pairs) all may))

-- what one entry ends
step : (h : Holder) (s : State) (e : Entry) → are_sound s ≡ true → allowed s e ≡ true → ended_at h (after s e) ≡ ended h (e ∷ []) + ended_at h s
step h s (Draft d tree plan) all may = plus_none _ _ (pushed (ended_by h.app h.place) (new_draft tree plan) (new_past h.app h.place tree plan) s.drafts h.draft)
step h s (Made d i taken failed) all may = opened h s Instance d i taken failed all may
step h s (Started d a taken failed) all may = opened h s App d a taken failed all may
step h s (Publish d n from c) all may = plus_none _ _ (kept (ended_by h.app h.place) is_complete _ (λ x m. refl) s.drafts d h.draft (can s (Publish d n from c) may).complete)
step h s (Abandon d) all may = plus_none _ _ (kept (ended_by h.app h.place) (λ x. is_live x.life) _ (λ x m. refl) s.drafts d h.draft may)
step h s (Stopped d a) all may = one_more (ended_by h.app h.place) h (part_of App d a) (may_stop a s.serial) _ (ended_one App a s h.app h.place) s.drafts may
step h s (Cleaned d i) all may = one_more (ended_by h.app h.place) h (part_of Instance d i) (may_clean i s.retired) _ (ended_one Instance i s h.app h.place) s.drafts may
step h s e all may = plus_none _ _ refl

ended-cons : (h : Holder) (e : Entry) (es : List Entry) → ended h (e ∷ es) ≡ ended h (e ∷ []) + ended h es
ended-cons h (Stopped d a) es = counted (holder_eq h (part_of App d a)) (ended h es)
ended-cons h (Cleaned d i) es = counted (holder_eq h (part_of Instance d i)) (ended h es)
ended-cons h e es = plus_none _ _ refl

ended_from : (h : Holder) (s : State) (log : List Entry) → are_sound s ≡ true → legal_from s log ≡ true → ended_at h s + ended h log ≡ ended_at h (state_from s log)
ended_from h s [] all legal = omega arith
ended_from h s (e ∷ es) all legal =
    let may = first (allowed s e) _ legal in
    let here = step h s e all may in
    let more = ended-cons h e es in
    let rest = ended_from h (after s e) es (sound s e may all) (second (allowed s e) _ legal) in
    omega arith

none_before : (h : Holder) → ended_at h opening_state ≡ 0
none_before h = refl

-- a legal history ends an instance as often as its state says
pub ended-state : (h : Holder) (log : List Entry) → legal log ≡ true → ended h log ≡ ended_at h (state_of log)
ended-state h log legal = let all = ended_from h opening_state log refl legal in let none = none_before h in omega arith
