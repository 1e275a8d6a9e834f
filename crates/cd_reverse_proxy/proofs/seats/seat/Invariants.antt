use Rattle.std.proofs.Common.{◌≡◌, ◌≤◌, ◌+◌, ◌++◌, map, length, vec_len}
use Rattle.std.specs.Vec.{vec_capacity}
use Rattle.cd_reverse_proxy.proofs.seats.seat.Given as goal

abbrev pub invariant-loop-lanes : goal.invariant-loop-lanes
invariant-loop-lanes g l = record {
  lanes : map (λ slot. slot.lane) l.slots.items ++ l.lanes.items ≡ l.initial.lanes.items;
  peers : map (λ slot. slot.peers) l.slots.items ++ l.peers.items ≡ l.initial.peers.items;
  enough : length l.peers.items ≡ length l.lanes.items;
  room : vec_len l.slots + vec_len l.lanes ≤ vec_capacity l.slots;
  lanes_room : vec_capacity l.lanes ≡ vec_capacity l.initial.lanes;
  peers_room : vec_capacity l.peers ≡ vec_capacity l.initial.peers;
}

abbrev pub decreases-loop-lanes : goal.decreases-loop-lanes
decreases-loop-lanes g l = vec_len l.lanes
