-- What a table of names finds, and what is read by what it finds.
use Rattle.std.proofs.Common.{◌≡◌, List, [], ◌∷◌, Bool, true, Some, Result, Ok, rules}
use Rattle.std.specs.List.{find}
use Rattle.cd_text.specs.Steps.{◌▷◌}

-- what is found passes the test
pub found-passes : {X : Type 0} (p : X → Bool) (xs : List X) (x : X) → find p xs ≡ Some x → p x ≡ true
found-passes p [] x e = cc
found-passes p (y ∷ ys) x e = search (rules, found-passes p ys x)

-- what is made of what was read is of a kind, where all that is made so is
pub made-so : {X Y K F : Type 0} (r : Result X F) (f : X → Y) (kind : Y → K) (which : K) (y : Y) → ((x : X) → kind (f x) ≡ which) → (r ▷ λ x. Ok (f x)) ≡ Ok y → kind y ≡ which
made-so r f kind which y is e = search (rules, is)
