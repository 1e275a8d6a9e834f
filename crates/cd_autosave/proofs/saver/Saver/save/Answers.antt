use Rattle.std.proofs.Common.{◌≡◌, ℕ, ◌+◌, subst, arith, rules}
use Rattle.cd_autosave.specs.Image.{Saved}
use Rattle.cd_autosave.specs.Saves.{IsSave}
use Rattle.cd_autosave.proofs.KeptProp.{kept_at}
use Rattle.cd_autosave.proofs.Surviving.{is_save}
use Rattle.cd_autosave.proofs.saver.Saver.save.Goals as goal

pub save-requires-clause-kept : goal.save-requires-clause-kept
save-requires-clause-kept g c = kept_at g.D.Disk.seen g.D.Disk.left_now c.args.self.now.slots c.args.self.now.kept

pub returns-clause-save : goal.returns-clause-save
returns-clause-save g c =
    let same : c.from.result ≡ c.args.serial = search rules in
    let saved : Saved = record { number = c.args.self.now.slots.found + c.from.result; text = c.args.text.now } in
    subst (λ (n : ℕ). IsSave g.D.Disk.seen g.D.Disk.left_now g.D.Disk.clock g.D.Disk.left_at (record { saved = record { number = c.args.self.now.slots.found + n; text = c.args.text.now }; answer = c.save.result }) c.args.self.now.slots c.save.new.self) same
    (is_save g.D.Disk.seen g.D.Disk.left_now g.D.Disk.clock g.D.Disk.left_at g.met.D.Disk.present c.args.self.now.slots c.save.new.self saved c.save.result c.requires.short (λ few. omega (arith, few, same, c.ranges.serial.fits))
    c.save.ensures.meanwhile c.save.ensures.acknowledged c.save.ensures.held c.save.ensures.found c.save.ensures.told)
