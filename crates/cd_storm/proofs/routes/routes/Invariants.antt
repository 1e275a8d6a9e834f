use Rattle.std.proofs.Common.{◌≡◌, ◌∷◌, map}
use Rattle.std.specs.List.{range_with_len}
use Rattle.cd_storm.specs.Draws.{drawn}
use Rattle.cd_storm.specs.FirstTree.{opening_route, drawn_route}
use Rattle.cd_storm.proofs.routes.routes.Given as goal

abbrev pub invariant-loop-place : goal.invariant-loop-place
invariant-loop-place l = record {
  routes : l.routes ≡ opening_route ∷ map (drawn_route l.number) (range_with_len 0 l.place);
  last : l.draws.last ≡ drawn l.number l.place;
}
