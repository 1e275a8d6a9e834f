-- Examples of the definitions: of each one where it is true and one where it is false.
use Rattle.std.specs.Prelude.{◌≡◌, true, false, List, [], ◌∷◌}
use Rattle.std.proofs.Common.{inl, refl, sym, ap, subst, ◌∙◌, true≢false}
use Rattle.cd_legal.specs.declared.entry.Entry.TheVariants.{Finish, Halt}
use Rattle.cd_legal.specs.declared.entry.Signed.{Signed}
use Rattle.cd_legal.specs.declared.state.State.{State}
use Rattle.cd_legal.specs.Entry.{signed}
use Rattle.cd_legal.specs.Laws.{core_at}
use Rattle.cd_legal.specs.State.{opening_state}
use Rattle.cd_gate.specs.declared.gate.Gate.{Gate}
use Rattle.cd_gate.specs.declared.pass.Pass.{Pass}
use Rattle.cd_gate.specs.declared.pass.Turn.{Turn}
use Rattle.cd_gate.specs.declared.view.View.{View}
use Rattle.cd_gate.specs.Knowing.{Knows}
use Rattle.cd_gate.specs.Passes.{view, HasTurnOf, opening_of}
use Rattle.cd_gate.specs.Steps.{first_view, with_turn}
use Rattle.cd_gate.specs.Tables.{Found}
use Rattle.cd_hall.specs.Dues.{is_last_at, is_before_halt, DueThen}
use Rattle.cd_hall.specs.GoesOn.{GoesOn, Settles}
use Rattle.cd_hall.specs.Requests.{HasLooked}
use Rattle.cd_hall.specs.Since.{Since}
use Rattle.cd_hall.specs.Turned.{Turned}
use Rattle.cd_hall.specs.Turns.{InTurn}
use Rattle.cd_hall.proofs.Goes.{goes_none}
use Rattle.cd_hall.proofs.Since.{entered}

-- serial 1 is current, and one request runs under serial 0
abbrev one_runs : State
one_runs = record opening_state { serial = 1; tickets = record { caller = 2; serial = 0 } ∷ [] }

abbrev halted : State
halted = record one_runs { halted = true }

abbrev Tests : Type 0
Tests =
    (is_last_at one_runs 0 ≡ true) × (is_last_at one_runs 1 ≡ false) × (is_before_halt halted 0 ≡ true) × (is_before_halt one_runs 0 ≡ false)

tests : Tests
tests = (refl, refl, refl, refl)

-- the end of that request gives the duty, unless the host was halted: then the pass that halted may have it
gives : DueThen one_runs 0 (0 ∷ [])
gives = refl

keeps : DueThen one_runs 0 [] → ⊥
keeps is = absurd (let h : [] ≡ 0 ∷ [] = is in cc)

may_have : DueThen halted 0 []
may_have = inl refl

-- a pass that has taken the turn has made nothing in it; what it has not seen it did not find
module _ (b : State) where
  found : Found (first_view b) []
  found = record { history = record { is_legal = refl; is_signed = refl }; seen = ([], refl); own = refl; own_seen = refl; owes = refl; in_turn = λ has. refl }

  since : Since (first_view b) (with_turn (first_view b) []) [] []
  since = entered (first_view b) (with_turn (first_view b) []) [] found refl

  not_since : Since (first_view b) (first_view b) (signed 1 (Halt 1) ∷ []) [] → ⊥
  not_since s = absurd (let h : [] ≡ signed 1 (Halt 1) ∷ [] = s.first in cc)

  not_turned : Turned (first_view b) (first_view b) [] (Finish 0 ∷ []) → ⊥
  not_turned t = absurd (let h : [] ≡ signed 0 (Finish 0) ∷ [] = t.is in cc)

  -- in its turn it has made nothing yet, and has nothing settled
  knows : Knows (with_turn (first_view b) [])
  knows = record { history = record { is_legal = refl; is_signed = refl }; own = refl; owes = refl; duties = λ n has. absurd (let h : false ≡ true = has in cc) }

  goes : GoesOn (with_turn (first_view b) []) (with_turn (first_view b) []) []
  goes = goes_none (with_turn (first_view b) []) knows

  not_goes : GoesOn (with_turn (first_view b) []) (with_turn (first_view b) []) (Halt 1 ∷ []) → ⊥
  not_goes g = absurd (let h : [] ≡ signed 0 (Halt 1) ∷ [] = g.core_is in cc)

  settles : Settles (with_turn (first_view b) []) (with_turn (first_view b) []) [] []
  settles = record { unsettled = with_turn (first_view b) []; goes = goes; settled = refl; more = refl }

  not_settles : Settles (with_turn (first_view b) []) (with_turn (first_view b) []) [] (0 ∷ []) → ⊥
  not_settles s = absurd (let h : [] ≡ 0 ∷ [] = s.more in cc)

  looked : HasLooked (first_view b) (with_turn (first_view b) [])
  looked = record { found = []; since = since; checked = refl }

  not_looked : HasLooked (first_view b) (record (with_turn (first_view b) []) { checked = true }) → ⊥
  not_looked l = absurd (let h : true ≡ false = l.checked in cc)

  -- a pass that has seen no entry has in hand a board that stands for none
  module _ (stands : State → State → List Signed → Type 0) (g : Gate State) (t : Turn State) (p : Pass State) where
    in_turn : HasTurnOf g p → view p ≡ with_turn (first_view b) [] → stands (opening_of g) t.value [] → InTurn stands g t p
    in_turn turn is board = record {
      turn = turn;
      knows = subst Knows (sym is) knows;
      board = subst (λ (v : View State). stands (opening_of g) t.value (core_at v.seen)) (sym is) board;
    }

    -- it has no turn
    not_in_turn : view p ≡ first_view b → InTurn stands g t p → ⊥
    not_in_turn is i = true≢false (sym i.turn.1 ∙ ap (λ (v : View State). v.turn) is)
