use Rattle.std.proofs.Common.{◌≡◌, drop}
use Rattle.std.specs.List.{list_all}
use Rattle.cd_match.specs.Vars.{variable_passes}
use Rattle.cd_match.proofs.vars.VarsMatcher.holds.Given as goal

abbrev pub invariant-loop-test : goal.invariant-loop-test
invariant-loop-test l = list_all (variable_passes l.scene) l.test-items ≡ list_all (variable_passes l.scene) (drop l.test-index l.test-items)
