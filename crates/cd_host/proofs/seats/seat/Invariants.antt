use Rattle.std.proofs.Common.{◌≡◌, ◌≤◌, ◌+◌, ◌++◌, map, length, vec_len}
use Rattle.std.specs.Vec.{vec_capacity}
use Rattle.cd_gate.specs.Passes.{view}
use Rattle.cd_host.specs.Seats.{AllFrom, IsUnused, IsReady}
use Rattle.cd_host.proofs.seats.seat.Given as goal

abbrev pub invariant-loop-lanes : goal.invariant-loop-lanes
invariant-loop-lanes g l = record {
  lanes : map (λ slot. slot.lane) l.slots.items ++ l.lanes.items ≡ l.initial.lanes.items;
  enough : length l.passes.items ≡ length l.lanes.items;
  passes : AllFrom (IsUnused l.hall) (1 + length l.slots.items) l.passes.items;
  ready : AllFrom (IsReady l.hall (view l.root).seen) 1 l.slots.items;
  root : l.root ≡ l.initial.root;
  room : vec_len l.slots + vec_len l.lanes ≤ vec_capacity l.slots;
  passes_room : vec_capacity l.passes ≡ vec_capacity l.initial.passes;
  lanes_room : vec_capacity l.lanes ≡ vec_capacity l.initial.lanes;
}

abbrev pub decreases-loop-lanes : goal.decreases-loop-lanes
decreases-loop-lanes g l = vec_len l.lanes
