use Rattle.std.proofs.Common.{true}
use Rattle.cd_autosave.proofs.Keeping.{stays_refl, stays_looked}
use Rattle.cd_autosave.proofs.Writes.{begun_still, looked_still}
use Rattle.cd_autosave.proofs.slots.Slots.settle.Goals as goal

pub returns-then-self-clause-meanwhile : goal.returns-then-self-clause-meanwhile
returns-then-self-clause-meanwhile g c = λ saved. begun_still g.D.Disk.seen g.D.Disk.left_now g.D.Disk.clock g.D.Disk.left_at g.met.D.Disk.tells g.met.D.Disk.present c.args.self.now saved c.requires.kept

pub returns-in-Some-clause-meanwhile : goal.returns-in-Some-clause-meanwhile
returns-in-Some-clause-meanwhile g c = λ saved. looked_still g.D.Disk.seen g.D.Disk.left_now g.D.Disk.clock g.D.Disk.left_at g.met.D.Disk.tells c.args.self.now c.look_at_gate.new.disk saved c.requires.kept c.look_at_gate.ensures.unchanged.meanwhile

pub returns-then-self-clause-stays : goal.returns-then-self-clause-stays
returns-then-self-clause-stays g c = stays_refl g.D.Disk.seen c.args.self.now

pub returns-in-None-clause-stays : goal.returns-in-None-clause-stays
returns-in-None-clause-stays g c = stays_looked g.D.Disk.seen c.args.self.now c.look_at_gate.new.disk c.args.self.now.gate c.args.self.now.settled c.look_at_gate.ensures.unchanged.reads

pub returns-in-Some-clause-stays : goal.returns-in-Some-clause-stays
returns-in-Some-clause-stays g c = stays_looked g.D.Disk.seen c.args.self.now c.look_at_gate.new.disk c.in-Some.gate true c.look_at_gate.ensures.unchanged.reads
