use Rattle.cd_autosave.proofs.Keeping.{stays_refl}
use Rattle.cd_autosave.proofs.Writes.{begun_still}
use Rattle.cd_autosave.proofs.slots.Slots.shut.Goals as goal

pub returns-in-Other-clause-meanwhile : goal.returns-in-Other-clause-meanwhile
returns-in-Other-clause-meanwhile g c = λ saved. begun_still g.D.Disk.seen g.D.Disk.left_now g.D.Disk.clock g.D.Disk.left_at g.met.D.Disk.tells g.met.D.Disk.present c.args.self.now saved c.requires.kept

pub returns-in-Other-clause-stays : goal.returns-in-Other-clause-stays
returns-in-Other-clause-stays g c = stays_refl g.D.Disk.seen c.args.self.now
