use Rattle.std.proofs.Common.{◌≡◌, length}
use Rattle.cd_disk.proofs.file_disk.read_on.Given as goal

-- what was interrupted changed nothing
abbrev pub invariant-loop : goal.invariant-loop
invariant-loop g l = record {
  kept : g.F.RawFile.bytes l.file ≡ g.F.RawFile.bytes l.initial.file;
  long : length l.into ≡ length l.initial.into;
}
