use Rattle.std.proofs.Common.{◌≡◌, ◌+◌, drop}
use Rattle.cd_routes.specs.Invoking.{place_of, route_names}
use Rattle.cd_routes.proofs.named.place_of.Given as goal

abbrev pub invariant-loop-place : goal.invariant-loop-place
invariant-loop-place l = l.place + place_of (route_names (drop l.place l.named)) l.name ≡ place_of (route_names l.named) l.name
