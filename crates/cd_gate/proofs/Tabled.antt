-- The table of a gate, as the steps on it see it.
use Rattle.std.proofs.Common.{◌≡◌, Option}
use Rattle.atomic_table.specs.Table.{State, Me}
use Rattle.cd_gate.specs.declared.view.View.{View}
use Rattle.cd_gate.specs.Words.{Slot}

abbrev pub Table : Type 0 → Type 0
Table T = State (Option T) (View T)

-- the seat that makes a step: its view, and what it carries
abbrev pub AtSeat : Type 0 → Type 0
AtSeat T = Me (Option T) (View T)

pub home_is : {T : Type 0} (b c : T) → Slot.Home b ≡ Slot.Home c → b ≡ c
home_is b c e = cc
