-- A host that was halted is halted for good.
use Rattle.std.proofs.Common.{◌≡◌, ℕ, true, List, [], ◌∷◌, ◌++◌, refl, sym, ap, ◌∙◌}
use mathlib.Core.List.{IsPrefix}
use Rattle.cd_legal.specs.declared.entry.Entry.{Entry}
use Rattle.cd_legal.specs.declared.entry.Entry.TheVariants.{Halt}
use Rattle.cd_legal.specs.declared.entry.Signed.{Signed}
use Rattle.cd_legal.specs.declared.state.State.{State}
use Rattle.cd_legal.specs.Entry.{entries}
use Rattle.cd_legal.specs.Legal.{state_at, state_from, after}
use Rattle.cd_legal.proofs.Logs.{state-append}

halted-by : (s : State) (e : Entry) → s.halted ≡ true → (after s e).halted ≡ true
halted-by s (Halt n) had = refl
halted-by s e had = had

halted-from : (s : State) (es : List Entry) → s.halted ≡ true → (state_from s es).halted ≡ true
halted-from s [] had = had
halted-from s (e ∷ es) had = halted-from (after s e) es (halted-by s e had)

pub halted-stays : (xs ys : List Signed) → IsPrefix xs ys → (state_at xs).halted ≡ true → (state_at ys).halted ≡ true
halted-stays xs ys p had =
    ap (λ (l : List Signed). (state_at l).halted) (sym p.1) ∙ (ap (λ (s : State). s.halted) (state-append xs p.0) ∙ halted-from (state_at xs) (entries p.0) had)

-- it is halted after a Halt and what follows in the same turn
pub halted-after : (found : List Signed) (k n : ℕ) (back : List Signed) → (state_at (found ++ record { by = k; entry = Halt n } ∷ back)).halted ≡ true
halted-after found k n back =
    ap (λ (s : State). s.halted) (state-append found (record { by = k; entry = Halt n } ∷ back)) ∙ halted-from (after (state_at found) (Halt n)) (entries back) refl
