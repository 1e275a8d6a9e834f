use Rattle.std.proofs.Common.{◌≡◌, ◌≤◌, ◌-◌, length, take}
use Rattle.cd_wire.specs.declared.scanning.Line.TheVariants.{Blank}
use Rattle.cd_wire.specs.Scanning.{scan}
use Rattle.cd_wire.proofs.scanning.scan_on.Given as goal

abbrev pub invariant-loop-count : goal.invariant-loop-count
invariant-loop-count l = record {
  within : l.count ≤ length l.bytes;
  stands : l.line ≡ scan Blank (take l.count l.bytes);
}

abbrev pub decreases-loop-count : goal.decreases-loop-count
decreases-loop-count l = length l.bytes - l.count
