-- What a loop over the fields finds.
use Rattle.std.proofs.Common.{◌≡◌, ℕ, List, [], ◌∷◌, ◌++◌, ap}
use Rattle.cd_wire.specs.declared.marks.Found.TheVariants.{Several}
use Rattle.cd_wire.specs.Fields.{IsFound}

-- one value, and then another
pub one_more_after_one : (first value : List ℕ) (before : List (List ℕ)) → before ≡ first ∷ []
    → IsFound Several (before ++ value ∷ [])
one_more_after_one first value before h = (first, value, [], ap (λ vs. vs ++ value ∷ []) h)

-- several values, and then another
pub one_more_after_several : (value : List ℕ) (before : List (List ℕ)) → IsFound Several before
    → IsFound Several (before ++ value ∷ [])
one_more_after_several value before h = (h.0, h.1, h.2 ++ value ∷ [], ap (λ vs. vs ++ value ∷ []) h.3)
