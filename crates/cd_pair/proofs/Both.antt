-- Two passes, from a new hall to its end.
use Rattle.std.proofs.Common.{◌≡◌, ℕ, zero, suc, true, List, [], ◌∷◌, length, None, refl, sym, ◌∙◌, subst, arith}
use mathlib.Core.Option.{some, some-injective, some-ne-none}
use lib.ListN.{get_elem?}
use Rattle.cd_legal.specs.Legal.{state_at}
use Rattle.cd_gate.specs.declared.pass.Pass.{Pass}
use Rattle.cd_gate.specs.Passes.{view, IsIdleOf}
use Rattle.cd_gate.specs.Ends.{IsRowOf, IsFree, AreFree, AreNew}
use Rattle.cd_life.specs.declared.board.Board.{Board}
use Rattle.cd_hall.specs.declared.hall.Hall.{Hall}
use Rattle.cd_hall.specs.Ends.{ArePassesOf, IsHalted}
use Rattle.cd_pair.specs.Passes.{Has}

module _ {A F B : Type 0} {g : _} (h : Hall A F B g) (p q : Pass (Board A F B g)) where
  abbrev OfHall : Type 0
  OfHall = Pass (Board A F B g)

  pub row_of : Has h p 0 None None [] → Has h q 1 None None [] → IsRowOf h.gate (p ∷ q ∷ [])
  row_of one two = record {
    some_pass = omega arith;
    each = each;
    root = λ r is. subst (λ (z : OfHall). ((view z).made ≡ 2) × ((view z).joined ≡ [])) (some-injective p r is) (one.root refl);
  }
    where
      each : (i : ℕ) (r : OfHall) → get_elem? (p ∷ q ∷ []) i ≡ some r → IsIdleOf h.gate r × ((view r).number ≡ i)
      each zero r is = subst (λ (z : OfHall). IsIdleOf h.gate z × ((view z).number ≡ 0)) (some-injective p r is) (one.pass.idle, one.number)
      each (suc zero) r is = subst (λ (z : OfHall). IsIdleOf h.gate z × ((view z).number ≡ 1)) (some-injective q r is) (two.pass.idle, two.number)
      each (suc (suc i)) r is = absurd (some-ne-none r (sym is))

  pub free_of : Has h p 0 None None [] → Has h q 1 None None [] → AreFree (p ∷ q ∷ [])
  free_of one two = record { each = each }
    where
      each : (i : ℕ) (r : OfHall) → get_elem? (p ∷ q ∷ []) i ≡ some r → IsFree r
      each zero r is = subst (λ (z : OfHall). IsFree z) (some-injective p r is) (one.owes, one.duties)
      each (suc zero) r is = subst (λ (z : OfHall). IsFree z) (some-injective q r is) (two.owes, two.duties)
      each (suc (suc i)) r is = absurd (some-ne-none r (sym is))

  pub halted_of : (state_at (view p).seen).halted ≡ true → IsHalted (p ∷ q ∷ [])
  halted_of had = (0, p, refl, had)

-- how the passes of a new hall begin
module _ {A F B : Type 0} {g : _} (h : Hall A F B g) (ps : List (Pass (Board A F B g))) (f : IsRowOf h.gate ps × AreNew ps × (length ps ≡ 2)) (ours : ArePassesOf h ps) where
  pub begins_at : (i : ℕ) (p : Pass (Board A F B g)) → get_elem? ps i ≡ some p → Has h p i None None []
  begins_at i p at = record {
    pass = ours i p at;
    number = (f.0.each i p at).1;
    owes = (f.1.each i p at).2.0;
    duties = (f.1.each i p at).2.1;
    root = λ first.
        let first_at : get_elem? ps 0 ≡ some p = subst (λ (n : ℕ). get_elem? ps n ≡ some p) first at in
        ((f.0.root p first_at).0 ∙ f.2, (f.0.root p first_at).1);
  }
