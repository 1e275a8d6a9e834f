-- How many views there are of a kind: for the bound on the requests of one serial.
use Rattle.std.proofs.Common.{◌≡◌, ℕ, zero, suc, ◌+◌, ◌≤◌, List, [], ◌∷◌, set, refl, sym, ap, arith}
use mathlib.Core.Option.{some, some-ne-none, some-injective}
use lib.ListN.{get_elem?}
use Rattle.cd_gate.specs.Counts.{total}

module _ {V : Type 0} where
  pub total_set : (f : V → ℕ) (views : List V) (id : ℕ) (v w : V) → get_elem? views id ≡ some v → total f (set views id w) + f v ≡ total f views + f w
  total_set f [] id v w at = absurd (some-ne-none v (sym at))
  total_set f (x ∷ xs) zero v w at = let e : f x ≡ f v = ap f (some-injective _ _ at) in let a : ℕ = f x in let b : ℕ = f v in let c : ℕ = f w in let t : ℕ = total f xs in let e' : a ≡ b = e in let g : (c + t) + b ≡ (a + t) + c = omega arith in g
  total_set f (x ∷ xs) (suc id) v w at = let h = total_set f xs id v w at in let a : ℕ = f x in let b : ℕ = f v in let c : ℕ = f w in let t : ℕ = total f xs in let t' : ℕ = total f (set xs id w) in let h' : t' + b ≡ t + c = h in
      let g : (a + t') + b ≡ (a + t) + c = omega arith in g

  pub total_le : (f h : V → ℕ) (views : List V) → ((i : ℕ) (v : V) → get_elem? views i ≡ some v → f v ≤ h v) → total f views ≤ total h views
  total_le f h [] each = omega arith
  total_le f h (x ∷ xs) each = let here = each 0 x refl in let there = total_le f h xs (λ i v e. each (suc i) v e) in
      let a : ℕ = f x in let b : ℕ = h x in let s : ℕ = total f xs in let t : ℕ = total h xs in let p : a ≤ b = here in let q : s ≤ t = there in let g : a + s ≤ b + t = omega arith in g
