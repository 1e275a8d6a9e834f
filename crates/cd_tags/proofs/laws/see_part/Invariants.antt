use Rattle.std.proofs.Common.{◌≡◌, drop}
use Rattle.cd_tags.specs.Parts.{are_bytes}
use Rattle.cd_tags.proofs.laws.see_part.Given as goal

abbrev pub invariant-loop-byte : goal.invariant-loop-byte
invariant-loop-byte l = are_bytes (drop l.byte-index l.byte-items) ≡ are_bytes l.byte-items
