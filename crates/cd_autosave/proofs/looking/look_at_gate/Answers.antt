use Rattle.cd_autosave.proofs.Clock.{unchanged_twice}
use Rattle.cd_autosave.proofs.looking.look_at_gate.Goals as goal

pub returns-in-Failed-read_at-clause-unchanged : goal.returns-in-Failed-read_at-clause-unchanged
returns-in-Failed-read_at-clause-unchanged g c =
    unchanged_twice g.D.Disk.clock g.D.Disk.left_at g.D.Disk.seen g.D.Disk.left_now c.args.disk.now c.sync.new.self c.read_at.new.self c.sync.ensures.unchanged c.read_at.ensures.unchanged

pub returns-in-End-clause-unchanged : goal.returns-in-End-clause-unchanged
returns-in-End-clause-unchanged g c =
    unchanged_twice g.D.Disk.clock g.D.Disk.left_at g.D.Disk.seen g.D.Disk.left_now c.args.disk.now c.sync.new.self c.read_at.new.self c.sync.ensures.unchanged c.read_at.ensures.unchanged

pub returns-in-Bytes-clause-unchanged : goal.returns-in-Bytes-clause-unchanged
returns-in-Bytes-clause-unchanged g c =
    unchanged_twice g.D.Disk.clock g.D.Disk.left_at g.D.Disk.seen g.D.Disk.left_now c.args.disk.now c.sync.new.self c.read_at.new.self c.sync.ensures.unchanged c.read_at.ensures.unchanged
