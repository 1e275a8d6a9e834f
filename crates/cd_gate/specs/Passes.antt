-- What callers see of a pass.
use Rattle.std.specs.Prelude.{◌≡◌, ◌<◌, ℕ, true, false, [], ◌∷◌, Some, None}
use Rattle.atomic_table.specs.Seated.{TableId}
use Rattle.cd_gate.specs.declared.table.TheConstants.{BOARD_SLOT}
use Rattle.cd_gate.specs.declared.view.View.{View}
use Rattle.cd_gate.specs.declared.gate.Gate.{Gate}
use Rattle.cd_gate.specs.declared.pass.Pass.{Pass}

module _ {T : Type 0} where
  -- what a pass knows
  abbrev pub view : Pass T → View T
  view p = p.seat.me.0

  -- a pass of the gate with this table, which began with the value o; it has no list to compare, and no balance that it made ready
  abbrev pub IsOf : TableId → T → Pass T → Type 0
  IsOf z o p = (p.seat.table_id ≡ z) × (p.seat.me.0.live ≡ true) × (p.number ≡ p.seat.me.0.number) × (p.seat.me.0.opening ≡ Some o) × (p.seat.me.0.older ≡ []) × (p.seat.me.0.ready ≡ false)

  -- a pass of this table that has no turn, and has left no serial unsettled
  abbrev pub IsIdle : TableId → T → Pass T → Type 0
  IsIdle z o p = IsOf z o p × (p.seat.me.0.turn ≡ false) × (p.seat.me.1 ≡ []) × (p.seat.me.0.unsettled ≡ None)

  -- a pass of this table that has the turn, with the board taken out of the slot
  abbrev pub HasTurn : TableId → T → Pass T → Type 0
  HasTurn z o p = IsOf z o p × (p.seat.me.0.turn ≡ true) × (p.seat.me.1 ≡ (BOARD_SLOT, None) ∷ [])

  -- a pass of this gate, in its turn or not
  abbrev pub IsPass : Gate T → Pass T → Type 0
  IsPass g p = IsOf g.table.shared.table_id g.table.shared.key.value p

  -- an idle pass of this gate
  abbrev pub IsIdleOf : Gate T → Pass T → Type 0
  IsIdleOf g p = IsIdle g.table.shared.table_id g.table.shared.key.value p

  -- a pass that has the turn of this gate
  abbrev pub HasTurnOf : Gate T → Pass T → Type 0
  HasTurnOf g p = HasTurn g.table.shared.table_id g.table.shared.key.value p

  -- by a step on its own request an idle pass p of this gate stays idle, and one that has the turn keeps it
  abbrev pub Stays : Gate T → Pass T → Pass T → Type 0
  Stays g p q = IsPass g q × (IsIdleOf g p → IsIdleOf g q) × (HasTurnOf g p → HasTurnOf g q)

  -- of so many places, one for each number from 0 on, one is the pass's
  abbrev pub HasPlace : ℕ → Pass T → Type 0
  HasPlace places p = (view p).number < places

  -- the value that this gate began with
  abbrev pub opening_of : Gate T → T
  opening_of g = g.table.shared.key.value
