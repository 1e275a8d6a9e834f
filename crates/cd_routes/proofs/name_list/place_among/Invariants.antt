use Rattle.std.proofs.Common.{◌≡◌, ◌+◌, drop}
use Rattle.cd_routes.specs.Invoking.{place_of}
use Rattle.cd_routes.proofs.name_list.place_among.Given as goal

abbrev pub invariant-loop-place : goal.invariant-loop-place
invariant-loop-place l = l.place + place_of (drop l.place l.names) l.name ≡ place_of l.names l.name
