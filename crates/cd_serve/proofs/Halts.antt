-- A halt that a pass finds since it began, and did not make, is of another pass.
use Rattle.std.proofs.Common.{◌≡◌, ℕ, ◌==◌, ◌||◌, ◌&&◌, not, Bool, true, false, cond, List, [], ◌∷◌, ◌++◌, ◌⊎◌, inl, inr, refl, ap, sym, ◌∙◌}
use Rattle.std.specs.List.{list_any}
use Rattle.cd_legal.specs.declared.entry.Entry.{Entry}
use Rattle.cd_legal.specs.declared.entry.Entry.TheVariants.{Halt}
use Rattle.cd_legal.specs.declared.entry.Signed.{Signed}
use Rattle.cd_legal.specs.declared.state.State.{State}
use Rattle.cd_legal.specs.Entry.{entries, mine}
use Rattle.cd_legal.specs.Legal.{after, state_from, state_at}
use Rattle.cd_legal.proofs.Logs.{state-append}
use Rattle.cd_serve.specs.Episodes.{is_halt, another_halted}

-- an entry is a Halt, or leaves the host running or halted as it was
halted-by : (s : State) (e : Entry) → (is_halt e ≡ true) ⊎ ((is_halt e ≡ false) × ((after s e).halted ≡ s.halted))
halted-by s (Halt n) = inl refl
halted-by s e = inr (refl, refl)

or-true : (b : Bool) → b || true ≡ true
or-true true = refl
or-true false = refl

not-own : (b : Bool) (x : Signed) (own : List Signed) → is_halt x.entry ≡ true → list_any is_halt (entries (cond b (x ∷ own) own)) ≡ false → b ≡ false
not-own true x own is none = absurd (let h : true ≡ false = sym (ap (λ (h : Bool). h || list_any is_halt (entries own)) is) ∙ none in cc)
not-own false x own is none = refl

rest-own : (b : Bool) (x : Signed) (own : List Signed) → is_halt x.entry ≡ false → list_any is_halt (entries (cond b (x ∷ own) own)) ≡ false → list_any is_halt (entries own) ≡ false
rest-own true x own is none = sym (ap (λ (h : Bool). h || list_any is_halt (entries own)) is) ∙ none
rest-own false x own is none = none

abbrev Found : ℕ → List Signed → Type 0
Found k late = (s : State) → s.halted ≡ false → (state_from s (entries late)).halted ≡ true → list_any is_halt (entries (mine k late)) ≡ false → another_halted k late ≡ true

one-more : (k : ℕ) (s : State) (x : Signed) (xs : List Signed) → Found k xs → (is_halt x.entry ≡ true) ⊎ ((is_halt x.entry ≡ false) × ((after s x.entry).halted ≡ s.halted)) → s.halted ≡ false
    → (state_from (after s x.entry) (entries xs)).halted ≡ true → list_any is_halt (entries (cond (x.by == k) (x ∷ mine k xs) (mine k xs))) ≡ false → another_halted k (x ∷ xs) ≡ true
one-more k s x xs found (inl is) running halted none =
    ap (λ (h : Bool). (h && not (x.by == k)) || another_halted k xs) is ∙ ap (λ (b : Bool). (true && not b) || another_halted k xs) (not-own (x.by == k) x (mine k xs) is none)
one-more k s x xs found (inr is) running halted none =
    ap (λ (h : Bool). (h && not (x.by == k)) || another_halted k xs) is.0 ∙ found (after s x.entry) (is.1 ∙ running) halted (rest-own (x.by == k) x (mine k xs) is.0 none)

found-in : (k : ℕ) (late : List Signed) → Found k late
found-in k [] s running halted none = absurd (let h : false ≡ true = sym running ∙ halted in cc)
found-in k (x ∷ xs) s running halted none = one-more k s x xs (found-in k xs) (halted-by s x.entry) running halted none

later-too : (k : ℕ) (early late : List Signed) → another_halted k late ≡ true → another_halted k (early ++ late) ≡ true
later-too k [] late is = is
later-too k (x ∷ xs) late is = ap (λ (b : Bool). (is_halt x.entry && not (x.by == k)) || b) (later-too k xs late is) ∙ or-true (is_halt x.entry && not (x.by == k))

pub halted-by-another : (k : ℕ) (early late : List Signed) → (state_at early).halted ≡ false → (state_at (early ++ late)).halted ≡ true → list_any is_halt (entries (mine k late)) ≡ false → another_halted k (early ++ late) ≡ true
halted-by-another k early late running halted none =
    later-too k early late (found-in k late (state_at early) running (sym (ap (λ (s : State). s.halted) (state-append early late)) ∙ halted) none)
