use Rattle.std.proofs.Common.{◌≡◌, ◌++◌, drop, Ok}
use Rattle.cd_text.specs.Steps.{◌▷◌}
use Rattle.cd_handlers.specs.Rewrite.{each_filled}
use Rattle.cd_handlers.proofs.rewriting.each_filled.Given as goal

abbrev pub invariant-loop-substring : goal.invariant-loop-substring
invariant-loop-substring l =
    each_filled l.scene l.substring-items ≡ (each_filled l.scene (drop l.substring-index l.substring-items) ▷ λ more. Ok (l.filled ++ more))
