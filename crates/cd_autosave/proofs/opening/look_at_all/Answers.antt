use Rattle.cd_autosave.proofs.Clock.{unchanged_twice}
use Rattle.cd_autosave.proofs.opening.look_at_all.Goals as goal

pub returns-in-Ok-clause-unchanged : goal.returns-in-Ok-clause-unchanged
returns-in-Ok-clause-unchanged g c =
    unchanged_twice g.D.Disk.clock g.D.Disk.left_at g.D.Disk.seen g.D.Disk.left_now c.args.disk.now c.look_at_slot.new.disk c.look_at_other.new.disk c.look_at_slot.ensures.unchanged c.look_at_other.ensures.unchanged
