use Rattle.std.proofs.Common.{ap, Err}
use Rattle.cd_autosave.proofs.Beginnings.{err_is, damaged_told}
use Rattle.cd_autosave.proofs.Clock.{unchanged_twice}
use Rattle.cd_autosave.proofs.opening.look_at_slot.Goals as goal

pub returns-in-Err-clause-damaged : goal.returns-in-Err-clause-damaged
returns-in-Err-clause-damaged g c = λ is.
    damaged_told c.args.slot (g.D.Disk.seen c.args.disk.now) (g.D.Disk.seen c.read_head.new.disk) c.start.result c.in-Some.head c.start.ensures.start c.in-Some.ensures.unchanged.reads c.in-Some.ensures.head
    (c.in-Err.ensures.damaged (ap Err (err_is is))) c.if-head.true

pub returns-in-Err-clause-unchanged : goal.returns-in-Err-clause-unchanged
returns-in-Err-clause-unchanged g c =
    unchanged_twice g.D.Disk.clock g.D.Disk.left_at g.D.Disk.seen g.D.Disk.left_now c.args.disk.now c.read_head.new.disk c.read_record.new.disk c.read_head.ensures.unchanged c.read_record.ensures.unchanged

pub returns-in-Ok-clause-unchanged : goal.returns-in-Ok-clause-unchanged
returns-in-Ok-clause-unchanged g c =
    unchanged_twice g.D.Disk.clock g.D.Disk.left_at g.D.Disk.seen g.D.Disk.left_now c.args.disk.now c.read_head.new.disk c.read_record.new.disk c.read_head.ensures.unchanged c.read_record.ensures.unchanged
