use Rattle.std.proofs.Common.{◌≡◌, ◌≤◌, ◌+◌, ◌++◌, map, length, vec_len}
use Rattle.std.specs.Prelude.{sum_by}
use Rattle.std.specs.Vec.{vec_capacity}
use Rattle.cd_autosave.proofs.wrapping.unwrap_lanes.Given as goal

abbrev pub invariant-loop-wrapped : goal.invariant-loop-wrapped
invariant-loop-wrapped g l = record {
  parts : l.all.parts ≡ length l.lanes.items;
  amount : l.all.amount + sum_by (λ one. one.share.amount) l.wrapped.items ≡ sum_by (λ one. one.share.amount) l.initial.wrapped.items;
  lanes : l.lanes.items ++ map (λ one. one.lane) l.wrapped.items ≡ map (λ one. one.lane) l.initial.wrapped.items;
  room : vec_len l.lanes + vec_len l.wrapped ≤ vec_capacity l.lanes;
}

abbrev pub decreases-loop-wrapped : goal.decreases-loop-wrapped
decreases-loop-wrapped g l = vec_len l.wrapped
