use Rattle.std.proofs.Common.{◌≡◌, drop}
use Rattle.cd_handlers.specs.Vars.{variables_set}
use Rattle.cd_handlers.proofs.vars.set_variables.Given as goal

abbrev pub invariant-loop-setting : goal.invariant-loop-setting
invariant-loop-setting l = variables_set l.setting-items l.initial.scene ≡ variables_set (drop l.setting-index l.setting-items) l.scene
