use Rattle.std.proofs.Common.{◌≡◌, ◌+◌, ◌*◌, map, All}
use Rattle.std.specs.List.{range_with_len}
use Rattle.cd_storm.specs.declared.limits.TheConstants.{STEPS}
use Rattle.cd_storm.specs.Draws.{drawn, route_count}
use Rattle.cd_storm.specs.Scripts.{lane_script, IsFresh}
use Rattle.cd_storm.proofs.storm.lanes.Given as goal

abbrev pub invariant-loop-lane : goal.invariant-loop-lane
invariant-loop-lane l = record {
  scripts : map (λ lane. lane.script) l.lanes ≡ map (lane_script l.number) (range_with_len 0 l.lane);
  fresh : All IsFresh l.lanes;
  last : l.draws.last ≡ drawn l.number (route_count l.number + STEPS * l.lane);
}
