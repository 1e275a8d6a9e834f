use Rattle.std.proofs.Common.{◌≡◌, drop}
use Rattle.std.specs.List.{list_any}
use Rattle.cd_standard.specs.Compiled.{echoes_at}
use Rattle.cd_standard.proofs.acting.any_echoes_at.Given as goal

abbrev pub invariant-loop-app : goal.invariant-loop-app
invariant-loop-app l = list_any (echoes_at l.at) (drop l.app-index l.apps) ≡ list_any (echoes_at l.at) l.apps
