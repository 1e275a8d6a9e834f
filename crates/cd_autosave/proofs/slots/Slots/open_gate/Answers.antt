use Rattle.std.proofs.Common.{◌≡◌, ℕ, true, false, [], ◌∷◌, Some, sym, ◌∙◌, subst}
use Rattle.std.proofs.lemmas.Bool.{false≢true}
use Rattle.cd_autosave.specs.Places.{start_of}
use Rattle.cd_autosave.specs.Image.{Saved}
use Rattle.cd_autosave.proofs.Keeping.{kept_new, held_same, steps_told}
use Rattle.cd_autosave.specs.Disk.{PartWritten, Written, Steps}
use Rattle.cd_autosave.specs.Saving.{IsKept, held_of}
use Rattle.cd_autosave.specs.declared.slot.Slot.{Slot}
use Rattle.cd_autosave.specs.declared.slot.Gate.TheVariants.{One}
use Rattle.cd_autosave.proofs.Turning.{kept_turned, held_turned}
use Rattle.cd_autosave.proofs.Recovered.{after_newer}
use Rattle.cd_autosave.proofs.Writes.{gate_in, held_below, open_moments}
use Rattle.cd_autosave.proofs.slots.Slots.open_gate.Goals as goal

pub returns-in-Failed-clause-kept : goal.returns-in-Failed-clause-kept
returns-in-Failed-clause-kept g c =
    kept_new g.D.Disk.seen g.D.Disk.left_now c.args.self.now c.write_through.new.disk c.args.self.now.gate false c.start-start.result 1 c.requires.kept
    (gate_in c.args.self.now.next c.start-start.result c.start-start.ensures.start) c.write_through.ensures.torn c.write_through.ensures.left (λ is. absurd (false≢true is)) (λ is. absurd (false≢true is))

pub returns-in-Failed-clause-held : goal.returns-in-Failed-clause-held
returns-in-Failed-clause-held g c = λ image is.
    held_same g.D.Disk.seen g.D.Disk.left_now c.args.self.now c.write_through.new.disk c.args.self.now.gate false c.start-start.result 1 c.requires.kept
    (gate_in c.args.self.now.next c.start-start.result c.start-start.ensures.start) c.write_through.ensures.torn c.write_through.ensures.left

pub returns-in-Failed-clause-told : goal.returns-in-Failed-clause-told
returns-in-Failed-clause-told g c = steps_told (PartWritten c.start-start.result 1) (g.D.Disk.seen c.args.self.now.disk) (g.D.Disk.seen c.write_through.new.disk) c.write_through.ensures.torn

pub returns-in-Failed-clause-meanwhile : goal.returns-in-Failed-clause-meanwhile
returns-in-Failed-clause-meanwhile g c =
    let saved : Saved = record { number = c.args.number; text = c.args.text.now } in
    open_moments g.D.Disk.seen g.D.Disk.left_now g.D.Disk.clock g.D.Disk.left_at g.met.D.Disk.tells c.args.self.now c.write_through.new.disk c.start-start.result c.requires.kept c.requires.settled
    saved c.start-start.ensures.start c.requires.filled c.requires.newer c.write_through.ensures.meanwhile

pub returns-in-All-clause-kept : goal.returns-in-All-clause-kept
returns-in-All-clause-kept g c =
    let saved : Saved = record { number = c.args.number; text = c.args.text.now } in
    let start = start_of c.args.self.now.next in
    let steps = subst (λ (n : ℕ). Steps (Written n (1 ∷ [])) (g.D.Disk.seen c.args.self.now.disk) (g.D.Disk.seen c.write_through.new.disk)) c.start-start.ensures.start (c.write_through.ensures.written c.in-All.is) in
    let turned = kept_turned g.D.Disk.seen g.D.Disk.left_now c.args.self.now c.write_through.new.disk saved c.requires.kept c.requires.short c.requires.filled steps (c.write_through.ensures.durable c.in-All.is) in
    subst (λ (s : Slot). IsKept g.D.Disk.seen g.D.Disk.left_now (record { disk = c.write_through.new.disk; found = c.args.self.now.found; held = Some c.args.number; next = s; gate = c.args.self.now.kept_gate; kept_gate = One; settled = true })) (sym c.other-self.ensures) turned

pub returns-in-All-clause-meanwhile : goal.returns-in-All-clause-meanwhile
returns-in-All-clause-meanwhile g c =
    let saved : Saved = record { number = c.args.number; text = c.args.text.now } in
    open_moments g.D.Disk.seen g.D.Disk.left_now g.D.Disk.clock g.D.Disk.left_at g.met.D.Disk.tells c.args.self.now c.write_through.new.disk c.start-start.result c.requires.kept c.requires.settled
    saved c.start-start.ensures.start c.requires.filled c.requires.newer c.write_through.ensures.meanwhile

pub returns-in-All-clause-held : goal.returns-in-All-clause-held
returns-in-All-clause-held g c = λ image is.
    let saved : Saved = record { number = c.args.number; text = c.args.text.now } in
    let start = start_of c.args.self.now.next in
    let steps = subst (λ (n : ℕ). Steps (Written n (1 ∷ [])) (g.D.Disk.seen c.args.self.now.disk) (g.D.Disk.seen c.write_through.new.disk)) c.start-start.ensures.start (c.write_through.ensures.written c.in-All.is) in
    let turned = held_turned g.D.Disk.seen g.D.Disk.left_now c.args.self.now c.write_through.new.disk saved c.requires.kept c.requires.short c.requires.filled steps (c.write_through.ensures.durable c.in-All.is) image is in
    let low = held_below g.D.Disk.seen g.D.Disk.left_now g.D.Disk.clock g.D.Disk.left_at g.met.D.Disk.tells c.args.self.now c.args.number c.requires.kept c.requires.newer in
    subst (λ (s : Slot). held_of g.D.Disk.seen (record { disk = c.write_through.new.disk; found = c.args.self.now.found; held = Some c.args.number; next = s; gate = c.args.self.now.kept_gate; kept_gate = One; settled = true }) ≡ Some saved) (sym c.other-self.ensures) turned
    ∙ sym (after_newer (held_of g.D.Disk.seen c.args.self.now) saved low)

pub returns-in-All-clause-told : goal.returns-in-All-clause-told
returns-in-All-clause-told g c = steps_told (PartWritten c.start-start.result 1) (g.D.Disk.seen c.args.self.now.disk) (g.D.Disk.seen c.write_through.new.disk) c.write_through.ensures.torn
