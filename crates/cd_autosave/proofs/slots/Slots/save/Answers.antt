use Rattle.std.proofs.Common.{◌∙◌, ap, arith, Option}
use Rattle.cd_autosave.specs.Image.{Saved}
use Rattle.cd_autosave.specs.Saving.{held_after}
use Rattle.cd_autosave.proofs.Keeping.{then_told}
use Rattle.cd_autosave.proofs.Writes.{not_held, rank_kept, begun_still, then_stands, held_newest}
use Rattle.cd_autosave.proofs.slots.Slots.save.Goals as goal

pub returns-then-has-clause-meanwhile : goal.returns-then-has-clause-meanwhile
returns-then-has-clause-meanwhile g c =
    let saved : Saved = record { number = c.args.number; text = c.args.text.now } in
    begun_still g.D.Disk.seen g.D.Disk.left_now g.D.Disk.clock g.D.Disk.left_at g.met.D.Disk.tells g.met.D.Disk.present c.args.self.now saved c.requires.kept

pub returns-then-has-clause-acknowledged : goal.returns-then-has-clause-acknowledged
returns-then-has-clause-acknowledged g c = λ all.
    let had = c.has.ensures.yes c.if-has.true in
    rank_kept g.D.Disk.seen g.D.Disk.left_now g.D.Disk.clock g.D.Disk.left_at g.met.D.Disk.tells c.args.self.now c.args.number had.0 c.requires.kept had.1 had.2

pub returns-in-Failed-clause-meanwhile : goal.returns-in-Failed-clause-meanwhile
returns-in-Failed-clause-meanwhile g c =
    let saved : Saved = record { number = c.args.number; text = c.args.text.now } in
    c.settle.ensures.meanwhile saved

pub returns-in-Failed-shut-clause-meanwhile : goal.returns-in-Failed-shut-clause-meanwhile
returns-in-Failed-shut-clause-meanwhile g c =
    let saved : Saved = record { number = c.args.number; text = c.args.text.now } in
    then_stands g.D.Disk.seen g.D.Disk.left_now g.D.Disk.clock g.D.Disk.left_at g.met.D.Disk.tells g.met.D.Disk.present c.args.self.now c.settle.new.self c.shut.new.self.disk saved c.settle.ensures.stays.record_is
    (c.settle.ensures.meanwhile saved) (c.shut.ensures.meanwhile saved)

pub returns-in-Failed-fill-clause-meanwhile : goal.returns-in-Failed-fill-clause-meanwhile
returns-in-Failed-fill-clause-meanwhile g c =
    let saved : Saved = record { number = c.args.number; text = c.args.text.now } in
    let first = then_stands g.D.Disk.seen g.D.Disk.left_now g.D.Disk.clock g.D.Disk.left_at g.met.D.Disk.tells g.met.D.Disk.present c.args.self.now c.settle.new.self c.shut.new.self.disk saved c.settle.ensures.stays.record_is (c.settle.ensures.meanwhile saved) (c.shut.ensures.meanwhile saved) in
    then_stands g.D.Disk.seen g.D.Disk.left_now g.D.Disk.clock g.D.Disk.left_at g.met.D.Disk.tells g.met.D.Disk.present c.args.self.now c.shut.new.self c.fill.new.self.disk saved (c.shut.ensures.stays.record_is ∙ c.settle.ensures.stays.record_is)
    first c.fill.ensures.meanwhile

pub returns-clause-meanwhile : goal.returns-clause-meanwhile
returns-clause-meanwhile g c =
    let saved : Saved = record { number = c.args.number; text = c.args.text.now } in
    let first = then_stands g.D.Disk.seen g.D.Disk.left_now g.D.Disk.clock g.D.Disk.left_at g.met.D.Disk.tells g.met.D.Disk.present c.args.self.now c.settle.new.self c.shut.new.self.disk saved c.settle.ensures.stays.record_is (c.settle.ensures.meanwhile saved) (c.shut.ensures.meanwhile saved) in
    let second = then_stands g.D.Disk.seen g.D.Disk.left_now g.D.Disk.clock g.D.Disk.left_at g.met.D.Disk.tells g.met.D.Disk.present c.args.self.now c.shut.new.self c.fill.new.self.disk saved (c.shut.ensures.stays.record_is ∙ c.settle.ensures.stays.record_is) first c.fill.ensures.meanwhile in
    then_stands g.D.Disk.seen g.D.Disk.left_now g.D.Disk.clock g.D.Disk.left_at g.met.D.Disk.tells g.met.D.Disk.present c.args.self.now c.fill.new.self c.open_gate.new.self.disk saved (c.fill.ensures.stays.record_is ∙ c.shut.ensures.stays.record_is ∙ c.settle.ensures.stays.record_is)
    second c.open_gate.ensures.meanwhile

pub returns-clause-acknowledged : goal.returns-clause-acknowledged
returns-clause-acknowledged g c = λ all.
    rank_kept g.D.Disk.seen g.D.Disk.left_now g.D.Disk.clock g.D.Disk.left_at g.met.D.Disk.tells c.open_gate.new.self c.args.number c.args.number c.open_gate.ensures.kept (c.open_gate.ensures.number all) (omega arith)

pub returns-in-Failed-clause-nothing : goal.returns-in-Failed-clause-nothing
returns-in-Failed-clause-nothing g c = λ held is low. absurd (not_held c.args.self.now.held c.args.number held (c.has.ensures.no c.if-has.false) is low)

pub returns-in-Failed-shut-clause-nothing : goal.returns-in-Failed-shut-clause-nothing
returns-in-Failed-shut-clause-nothing g c = λ held is low. absurd (not_held c.args.self.now.held c.args.number held (c.has.ensures.no c.if-has.false) is low)

pub returns-in-Failed-fill-clause-nothing : goal.returns-in-Failed-fill-clause-nothing
returns-in-Failed-fill-clause-nothing g c = λ held is low. absurd (not_held c.args.self.now.held c.args.number held (c.has.ensures.no c.if-has.false) is low)

pub returns-clause-nothing : goal.returns-clause-nothing
returns-clause-nothing g c = λ held is low. absurd (not_held c.args.self.now.held c.args.number held (c.has.ensures.no c.if-has.false) is low)

pub returns-then-has-clause-held : goal.returns-then-has-clause-held
returns-then-has-clause-held g c = λ image is.
    let saved : Saved = record { number = c.args.number; text = c.args.text.now } in
    let had = c.has.ensures.yes c.if-has.true in
    held_newest g.D.Disk.seen g.D.Disk.left_now g.D.Disk.clock g.D.Disk.left_at g.met.D.Disk.tells c.args.self.now saved had.0 c.requires.kept had.1 had.2 image is

pub returns-in-Failed-clause-held : goal.returns-in-Failed-clause-held
returns-in-Failed-clause-held g c = λ image is. c.settle.ensures.stays.record_is

pub returns-in-Failed-shut-clause-held : goal.returns-in-Failed-shut-clause-held
returns-in-Failed-shut-clause-held g c = λ image is. c.shut.ensures.stays.record_is ∙ c.settle.ensures.stays.record_is

pub returns-in-Failed-fill-clause-held : goal.returns-in-Failed-fill-clause-held
returns-in-Failed-fill-clause-held g c = λ image is. c.fill.ensures.stays.record_is ∙ c.shut.ensures.stays.record_is ∙ c.settle.ensures.stays.record_is

pub returns-clause-held : goal.returns-clause-held
returns-clause-held g c = λ image is.
    let saved : Saved = record { number = c.args.number; text = c.args.text.now } in
    c.open_gate.ensures.held image is ∙ ap (λ (held : Option Saved). held_after c.open_gate.result held saved) (c.fill.ensures.stays.record_is ∙ c.shut.ensures.stays.record_is ∙ c.settle.ensures.stays.record_is)

pub returns-then-has-clause-told : goal.returns-then-has-clause-told
returns-then-has-clause-told g c = λ image is. (image, is)

pub returns-in-Failed-clause-told : goal.returns-in-Failed-clause-told
returns-in-Failed-clause-told g c = c.settle.ensures.stays.told

pub returns-in-Failed-shut-clause-told : goal.returns-in-Failed-shut-clause-told
returns-in-Failed-shut-clause-told g c = then_told c.settle.ensures.stays.told c.shut.ensures.stays.told

pub returns-in-Failed-fill-clause-told : goal.returns-in-Failed-fill-clause-told
returns-in-Failed-fill-clause-told g c = then_told (then_told c.settle.ensures.stays.told c.shut.ensures.stays.told) c.fill.ensures.stays.told

pub returns-clause-told : goal.returns-clause-told
returns-clause-told g c = then_told (then_told (then_told c.settle.ensures.stays.told c.shut.ensures.stays.told) c.fill.ensures.stays.told) c.open_gate.ensures.told
