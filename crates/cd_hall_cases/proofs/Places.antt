-- The passes of a hall, each at its place.
use Rattle.std.proofs.Common.{◌≡◌, ◌<◌, ℕ, zero, suc, List, [], ◌∷◌, length, None, refl, sym, ◌∙◌, subst, arith, slice_index_or}
use mathlib.Core.Option.{some, some-injective}
use lib.ListN.{get_elem?}
use Rattle.cd_gate.specs.declared.pass.Pass.{Pass}
use Rattle.cd_gate.specs.Ends.{IsRowOf, AreFree, AreNew}
use Rattle.cd_gate.proofs.Views.{in_range}
use Rattle.cd_life.specs.declared.board.Board.{Board}
use Rattle.cd_hall.specs.declared.hall.Hall.{Hall}
use Rattle.cd_hall.specs.Ends.{ArePassesOf, IsHalted}
use Rattle.cd_pair.specs.Passes.{Has}
use Rattle.cd_pair.proofs.Both.{begins_at}
use Rattle.cd_hall_cases.specs.Passes.{HasServed}

-- what is found at a place is what an index gives
found : {A : Type 0} (xs : List A) (i : ℕ) (p : A) → get_elem? xs i ≡ some p → slice_index_or xs i p ≡ p
found [] i p is = refl
found (x ∷ xs) zero p is = some-injective x p is
found (x ∷ xs) (suc i) p is = found xs i p is

there : {A : Type 0} (xs : List A) (i : ℕ) (d : A) → i < length xs → get_elem? xs i ≡ some (slice_index_or xs i d)
there [] i d lt = absurd (omega (arith, lt))
there (x ∷ xs) zero d lt = refl
there (x ∷ xs) (suc i) d lt = there xs i d (omega (arith, lt))

module _ {A F B : Type 0} {g : _} (h : Hall A F B g) where
  abbrev OfHall : Type 0
  OfHall = Pass (Board A F B g)

  -- how the passes of a new hall begin
  pub begin_of : (ps : List OfHall) → IsRowOf h.gate ps × AreNew ps × (length ps ≡ 2) → ArePassesOf h ps → (i : ℕ) (d : OfHall) → i < length ps → Has h (slice_index_or ps i d) i None None []
  begin_of ps f ours i d lt = begins_at h ps f ours i (slice_index_or ps i d) (there ps i d lt)

  -- they are done, as many as there were
  abbrev pub AreDone : List OfHall → List OfHall → Type 0
  AreDone qs ps = (length qs ≡ 2) × (length ps ≡ length qs) × ((i : ℕ) (d : OfHall) → i < length qs → HasServed h (slice_index_or ps i d) i)

  done_at : (qs ps : List OfHall) → AreDone qs ps → (i : ℕ) (p : OfHall) → get_elem? ps i ≡ some p → HasServed h p i
  done_at qs ps done i p at =
      subst (λ (z : OfHall). HasServed h z i) (found ps i p at) (done.2 i p (subst (λ (n : ℕ). i < n) done.1 (in_range ps i p at)))

  pub row_of : (qs ps : List OfHall) → AreDone qs ps → IsRowOf h.gate ps
  row_of qs ps done = record {
    some_pass = omega (arith, done.0, done.1);
    each = λ i p at. let s = done_at qs ps done i p at in (s.has.pass.idle, s.has.number);
    root = λ p at. let s = done_at qs ps done 0 p at in ((s.has.root refl).0 ∙ sym (done.1 ∙ done.0), (s.has.root refl).1);
  }

  pub free_of : (qs ps : List OfHall) → AreDone qs ps → AreFree ps
  free_of qs ps done = record { each = λ i p at. let s = done_at qs ps done i p at in (s.has.owes, s.has.duties) }

  pub halted_of : (qs ps : List OfHall) → AreDone qs ps → IsHalted ps
  halted_of qs [] done = absurd (omega (arith, done.0, done.1))
  halted_of qs (p ∷ ps) done = (0, p, refl, (done_at qs (p ∷ ps) done 0 p refl).halted refl)
