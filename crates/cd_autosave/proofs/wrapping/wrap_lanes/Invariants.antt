use Rattle.std.proofs.Common.{◌≡◌, ◌≤◌, ◌+◌, ◌++◌, All, map, length, vec_len}
use Rattle.std.specs.Vec.{vec_capacity}
use Rattle.cd_autosave.proofs.wrapping.wrap_lanes.Given as goal

abbrev pub invariant-loop-lanes : goal.invariant-loop-lanes
invariant-loop-lanes g l = record {
  lanes : map (λ one. one.lane) l.wrapped.items ++ l.lanes.items ≡ l.initial.lanes.items;
  parts : l.all.parts ≡ length l.lanes.items;
  amount : l.all.amount ≡ 0;
  shares : All (λ one. one.share.amount ≡ 0) l.wrapped.items;
  room : vec_len l.wrapped + vec_len l.lanes ≤ vec_capacity l.wrapped;
  lanes_room : vec_capacity l.lanes ≡ vec_capacity l.initial.lanes;
}

abbrev pub decreases-loop-lanes : goal.decreases-loop-lanes
decreases-loop-lanes g l = vec_len l.lanes
