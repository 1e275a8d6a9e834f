use Rattle.std.proofs.Common.{◌≡◌, ◌≤◌, ◌+◌, ◌++◌, min, map, vec_len}
use Rattle.std.specs.Prelude.{sum_by}
use Rattle.std.specs.Vec.{vec_capacity}
use Rattle.cd_outside.specs.Counts.{count_end}
use Rattle.cd_reverse_proxy.proofs.seats.unseat.Given as goal

abbrev pub invariant-loop-slots : goal.invariant-loop-slots
invariant-loop-slots g l = record {
  lanes : l.lanes.items ++ map (λ slot. slot.lane) l.slots.items ≡ map (λ slot. slot.lane) l.initial.slots.items;
  peers : l.peers.items ++ map (λ slot. slot.peers) l.slots.items ≡ map (λ slot. slot.peers) l.initial.slots.items;
  answered : min (l.sums.answered + sum_by (λ slot. slot.end.answered) l.slots.items) count_end ≡ min (sum_by (λ slot. slot.end.answered) l.initial.slots.items) count_end;
  answered_fits : l.sums.answered ≤ count_end;
  cut : min (l.sums.cut + sum_by (λ slot. slot.end.cut) l.slots.items) count_end ≡ min (sum_by (λ slot. slot.end.cut) l.initial.slots.items) count_end;
  cut_fits : l.sums.cut ≤ count_end;
  lanes_room : vec_len l.lanes + vec_len l.slots ≤ vec_capacity l.lanes;
  peers_room : vec_len l.peers + vec_len l.slots ≤ vec_capacity l.peers;
}

abbrev pub decreases-loop-slots : goal.decreases-loop-slots
decreases-loop-slots g l = vec_len l.slots
