use Rattle.std.proofs.Common.{◌≡◌, ◌++◌}
use Rattle.percent_encoding.specs.Percent.{percent_decode}
use Rattle.percent_encoding.specs.Iter.{decoded_bytes}
use Rattle.cd_fill.proofs.treating.put_decoded.Given as goal

abbrev pub invariant-loop-byte : goal.invariant-loop-byte
invariant-loop-byte l = l.initial.out ++ percent_decode l.text ≡ l.out ++ decoded_bytes l.byte-iterator
