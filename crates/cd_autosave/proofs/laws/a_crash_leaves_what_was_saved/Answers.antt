use Rattle.cd_autosave.proofs.Surviving.{survives, survives_between, undamaged, resumed}
use Rattle.cd_autosave.proofs.laws.a_crash_leaves_what_was_saved.Goals as goal

pub returns-clause-survives : goal.returns-clause-survives
returns-clause-survives g c = survives g.D.Disk.seen g.D.Disk.left_now g.D.Disk.clock g.D.Disk.left_at g.met.D.Disk.present

pub returns-clause-between : goal.returns-clause-between
returns-clause-between g c = survives_between g.D.Disk.seen g.D.Disk.left_now g.D.Disk.clock g.D.Disk.left_at g.met.D.Disk.present

pub returns-clause-undamaged : goal.returns-clause-undamaged
returns-clause-undamaged g c = undamaged g.D.Disk.seen g.D.Disk.left_now g.D.Disk.clock g.D.Disk.left_at g.met.D.Disk.present

pub returns-clause-resumed : goal.returns-clause-resumed
returns-clause-resumed g c = resumed
