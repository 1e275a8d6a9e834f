use Rattle.std.proofs.Common.{◌≡◌}
use Rattle.cd_caddyfile.specs.Lines.{texts}
use Rattle.cd_caddyfile.proofs.lines.texts.Given as goal

abbrev pub invariant-loop-word : goal.invariant-loop-word
invariant-loop-word l = l.made ≡ texts l.yielded
