use Rattle.std.proofs.Common.{◌≡◌, ◌<◌, ◌≤◌, ◌^◌, ℕ, length, take}
use Rattle.std.specs.Str.{str_to_ascii_lowercase}
use Rattle.cd_index.specs.Hashing.{hash}
use Rattle.cd_index.specs.Runs.{Has}
use Rattle.cd_index.specs.Tables.{HasKeyOf}
use Rattle.cd_index.proofs.table.Table.candidate.Given as goal

abbrev pub invariant-loop-long : goal.invariant-loop-long
invariant-loop-long l = record {
  within : l.long ≤ length l.text;
  made : l.made ≡ hash (str_to_ascii_lowercase (take l.long l.text));
  small : l.made < 2 ^ 32;
  at_most : l.best ≤ l.limit;
  free : (n : ℕ) → Has n l.self.free → n ≤ l.limit → n ≤ l.best;
  keys : (n : ℕ) (k : ℕ) → k < l.long → HasKeyOf l.self l.text n k → n ≤ l.limit → n ≤ l.best;
}
