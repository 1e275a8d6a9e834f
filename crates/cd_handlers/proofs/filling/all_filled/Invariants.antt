use Rattle.std.proofs.Common.{◌≡◌, ◌++◌, drop, Ok}
use Rattle.cd_text.specs.Steps.{◌▷◌}
use Rattle.cd_handlers.specs.Filling.{all_filled}
use Rattle.cd_handlers.proofs.filling.all_filled.Given as goal

abbrev pub invariant-loop-text : goal.invariant-loop-text
invariant-loop-text l =
    all_filled l.scene l.text-items ≡ (all_filled l.scene (drop l.text-index l.text-items) ▷ λ more. Ok (l.values ++ more))
