use Rattle.cd_autosave.proofs.Clock.{unchanged_twice}
use Rattle.cd_autosave.proofs.opening.look_at_both.Goals as goal

pub returns-in-All-clause-unchanged : goal.returns-in-All-clause-unchanged
returns-in-All-clause-unchanged g c =
    unchanged_twice g.D.Disk.clock g.D.Disk.left_at g.D.Disk.seen g.D.Disk.left_now c.args.disk.now c.sync.new.self c.look_at_all.new.disk c.sync.ensures.unchanged c.look_at_all.ensures.unchanged
