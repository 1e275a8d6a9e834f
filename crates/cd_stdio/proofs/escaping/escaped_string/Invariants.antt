use Rattle.std.proofs.Common.{◌≡◌, string_bytes, flat_map}
use Rattle.cd_stdio.specs.Escaping.{escaped_char}
use Rattle.cd_stdio.proofs.escaping.escaped_string.Given as goal

abbrev pub invariant-loop-c : goal.invariant-loop-c
invariant-loop-c l = string_bytes l.line ≡ flat_map escaped_char l.yielded
