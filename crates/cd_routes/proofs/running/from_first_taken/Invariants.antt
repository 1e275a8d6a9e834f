use Rattle.std.proofs.Common.{◌≡◌, ◌≤◌, map, length}
use Rattle.cd_routes.specs.Running.{Named, Rest, run_routes}
use Rattle.cd_routes.specs.Work.{Weights, total, route_weight}
use Rattle.cd_routes.proofs.running.from_first_taken.Given as goal

abbrev pub invariant-loop-route : goal.invariant-loop-route
invariant-loop-route l = record {
  same : (named : Named) (rest : Rest) → run_routes named l.left rest l.scene ≡ run_routes named l.routes rest l.scene;
  less : (w : Weights) → total (map (route_weight w) l.left) ≤ total (map (route_weight w) l.routes);
}

abbrev pub decreases-loop-route : goal.decreases-loop-route
decreases-loop-route l = length l.left
