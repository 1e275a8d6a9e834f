use Rattle.std.proofs.Common.{◌≡◌, ℕ, ◌+◌, ◌-◌, ◌<◌, ◌≤◌, List, length, Some, slice_index}
use Rattle.cd_autosave.specs.Disk.{IsUnchanged}
use Rattle.cd_autosave.proofs.reading.read_whole.Given as goal

abbrev pub invariant-loop-done : goal.invariant-loop-done
invariant-loop-done g l = record {
  inside : l.done ≤ length l.into;
  long : length l.into ≡ length l.initial.into;
  unchanged : IsUnchanged g.D.Disk.seen g.D.Disk.left_now g.D.Disk.clock g.D.Disk.left_at l.initial.disk l.disk;
  each : (image : List ℕ) → g.D.Disk.seen l.initial.disk ≡ Some image → (i : ℕ) → i < l.done → slice_index l.into i ≡ slice_index image (l.at + i);
  there : (image : List ℕ) → g.D.Disk.seen l.initial.disk ≡ Some image → 0 < l.done → l.at + l.done ≤ length image;
  faults : g.D.Disk.faults l.initial.disk ≤ g.D.Disk.faults l.disk;
}

abbrev pub decreases-loop-done : goal.decreases-loop-done
decreases-loop-done g l = length l.into - l.done
