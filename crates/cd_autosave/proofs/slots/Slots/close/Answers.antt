use Rattle.std.proofs.Common.{true, false}
use Rattle.std.proofs.lemmas.Bool.{false≢true}
use Rattle.cd_autosave.proofs.Keeping.{kept_new, stays_new}
use Rattle.cd_autosave.proofs.Writes.{gate_in, close_moments, close_shut}
use Rattle.cd_autosave.specs.declared.slot.Gate.TheVariants as gate
use Rattle.cd_autosave.proofs.slots.Slots.close.Goals as goal

pub returns-in-Failed-clause-kept : goal.returns-in-Failed-clause-kept
returns-in-Failed-clause-kept g c =
    kept_new g.D.Disk.seen g.D.Disk.left_now c.args.self.now c.write_through.new.disk c.args.self.now.gate false c.start-start.result 1 c.requires.kept
    (gate_in c.args.self.now.next c.start-start.result c.start-start.ensures.start) c.write_through.ensures.torn c.write_through.ensures.left (λ is. absurd (false≢true is)) (λ is. absurd (false≢true is))

pub returns-in-Failed-clause-stays : goal.returns-in-Failed-clause-stays
returns-in-Failed-clause-stays g c =
    stays_new g.D.Disk.seen g.D.Disk.left_now c.args.self.now c.write_through.new.disk c.args.self.now.gate false c.start-start.result 1 c.requires.kept
    (gate_in c.args.self.now.next c.start-start.result c.start-start.ensures.start) c.write_through.ensures.torn c.write_through.ensures.left

pub returns-in-Failed-clause-meanwhile : goal.returns-in-Failed-clause-meanwhile
returns-in-Failed-clause-meanwhile g c =
    close_moments g.D.Disk.seen g.D.Disk.left_now g.D.Disk.clock g.D.Disk.left_at g.met.D.Disk.tells c.args.self.now c.write_through.new.disk c.start-start.result c.requires.kept c.requires.settled
    c.start-start.ensures.start c.requires.gate c.write_through.ensures.meanwhile

pub returns-in-All-clause-kept : goal.returns-in-All-clause-kept
returns-in-All-clause-kept g c =
    kept_new g.D.Disk.seen g.D.Disk.left_now c.args.self.now c.write_through.new.disk gate.Other true c.start-start.result 1 c.requires.kept
    (gate_in c.args.self.now.next c.start-start.result c.start-start.ensures.start) c.write_through.ensures.torn c.write_through.ensures.left
    (λ is. c.write_through.ensures.durable c.in-All.is)
    (λ is. close_shut g.D.Disk.seen g.D.Disk.left_now g.D.Disk.clock g.D.Disk.left_at g.met.D.Disk.tells c.args.self.now c.write_through.new.disk c.start-start.result c.requires.kept c.requires.settled
    c.start-start.ensures.start (c.write_through.ensures.written c.in-All.is))

pub returns-in-All-clause-stays : goal.returns-in-All-clause-stays
returns-in-All-clause-stays g c =
    stays_new g.D.Disk.seen g.D.Disk.left_now c.args.self.now c.write_through.new.disk gate.Other true c.start-start.result 1 c.requires.kept
    (gate_in c.args.self.now.next c.start-start.result c.start-start.ensures.start) c.write_through.ensures.torn c.write_through.ensures.left

pub returns-in-All-clause-meanwhile : goal.returns-in-All-clause-meanwhile
returns-in-All-clause-meanwhile g c =
    close_moments g.D.Disk.seen g.D.Disk.left_now g.D.Disk.clock g.D.Disk.left_at g.met.D.Disk.tells c.args.self.now c.write_through.new.disk c.start-start.result c.requires.kept c.requires.settled
    c.start-start.ensures.start c.requires.gate c.write_through.ensures.meanwhile
