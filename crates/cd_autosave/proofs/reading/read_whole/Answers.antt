use Rattle.std.proofs.Common.{arith}
use Rattle.std.proofs.lemmas.Grind.{common_steps}
use Rattle.cd_autosave.proofs.Clock.{unchanged_twice}
use Rattle.cd_autosave.proofs.reading.read_whole.Goals as goal

pub returns-in-Failed-clause-unchanged : goal.returns-in-Failed-clause-unchanged
returns-in-Failed-clause-unchanged g c =
    unchanged_twice g.D.Disk.clock g.D.Disk.left_at g.D.Disk.seen g.D.Disk.left_now c.args.disk.now c.loop-done.disk c.read_at.new.self c.loop-done.invariant.unchanged c.read_at.ensures.unchanged

pub returns-in-End-clause-unchanged : goal.returns-in-End-clause-unchanged
returns-in-End-clause-unchanged g c =
    unchanged_twice g.D.Disk.clock g.D.Disk.left_at g.D.Disk.seen g.D.Disk.left_now c.args.disk.now c.loop-done.disk c.read_at.new.self c.loop-done.invariant.unchanged c.read_at.ensures.unchanged

pub loop-done-preserved : goal.loop-done-preserved
loop-done-preserved g c = record {
  inside = grind (arith, common_steps);
  long = grind (arith, common_steps);
  unchanged = unchanged_twice g.D.Disk.clock g.D.Disk.left_at g.D.Disk.seen g.D.Disk.left_now c.args.disk.now c.loop-done.disk c.read_at.new.self c.loop-done.invariant.unchanged c.read_at.ensures.unchanged;
  each = grind (arith, common_steps);
  there = grind (arith, common_steps);
  faults = omega arith;
}
