use Rattle.std.proofs.Common.{◌≡◌, ◌+◌, ◌*◌}
use Rattle.std.specs.List.{flat_map, range_with_len}
use Rattle.cd_storm.specs.declared.limits.TheConstants.{STEPS}
use Rattle.cd_storm.specs.Draws.{drawn, route_count}
use Rattle.cd_storm.specs.Scripts.{lane_step}
use Rattle.cd_storm.proofs.requests.lane_script.Given as goal

abbrev pub invariant-loop-step : goal.invariant-loop-step
invariant-loop-step l = record {
  calls : l.calls ≡ flat_map (lane_step l.number l.lane) (range_with_len 0 l.step);
  last : l.draws.last ≡ drawn l.number (route_count l.number + STEPS * l.lane + l.step);
}
