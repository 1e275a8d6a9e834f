use Rattle.std.proofs.Common.{◌≡◌, ◌++◌, take, drop, map}
use Rattle.std.specs.Char.{to_ascii_lowercase}
use Rattle.cd_wire.proofs.place.lower.Given as goal

abbrev pub invariant-loop-byte : goal.invariant-loop-byte
invariant-loop-byte l =
    take l.byte-index l.text ++ map to_ascii_lowercase (drop l.byte-index l.text) ≡ map to_ascii_lowercase l.fn.text
