use Rattle.std.proofs.Common.{◌≡◌, ◌++◌, take, drop, map}
use Rattle.cd_wire.specs.Render.{clean_byte}
use Rattle.cd_wire.proofs.lines.clean.Given as goal

abbrev pub invariant-loop-byte : goal.invariant-loop-byte
invariant-loop-byte l =
    take l.byte-index l.value ++ map clean_byte (drop l.byte-index l.value) ≡ map clean_byte l.fn.value
