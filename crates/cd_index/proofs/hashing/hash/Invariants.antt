use Rattle.std.proofs.Common.{◌≡◌, ◌<◌, ◌^◌, fold, drop}
use Rattle.std.specs.Str.{str_to_ascii_lowercase}
use Rattle.cd_index.specs.Hashing.{mixed}
use Rattle.cd_index.proofs.hashing.hash.Given as goal

abbrev pub invariant-loop-byte : goal.invariant-loop-byte
invariant-loop-byte l = record {
  same : fold mixed 0 (str_to_ascii_lowercase l.bytes) ≡ fold mixed l.made (str_to_ascii_lowercase (drop l.byte-index l.bytes));
  small : l.made < 2 ^ 32;
}
