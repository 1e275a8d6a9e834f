use Rattle.std.proofs.Common.{◌≡◌, ◌++◌, map, drop, string_bytes}
use Rattle.cd_log.specs.Lines.{visible}
use Rattle.cd_log.proofs.line.put_visible.Given as goal

abbrev pub invariant-loop-byte : goal.invariant-loop-byte
invariant-loop-byte l = string_bytes l.line ++ map visible (drop l.byte-index l.bytes) ≡ string_bytes l.initial.line ++ map visible l.bytes
