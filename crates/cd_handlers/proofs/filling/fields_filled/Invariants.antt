use Rattle.std.proofs.Common.{◌≡◌, ◌++◌, drop, Ok}
use Rattle.cd_text.specs.Steps.{◌▷◌}
use Rattle.cd_handlers.specs.Filling.{fields_filled}
use Rattle.cd_handlers.proofs.filling.fields_filled.Given as goal

abbrev pub invariant-loop-setting : goal.invariant-loop-setting
invariant-loop-setting l =
    fields_filled l.scene l.setting-items ≡ (fields_filled l.scene (drop l.setting-index l.setting-items) ▷ λ more. Ok (l.fields ++ more))
