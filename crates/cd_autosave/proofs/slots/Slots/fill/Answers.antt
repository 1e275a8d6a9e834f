use Rattle.std.proofs.Common.{◌≡◌, ℕ, ◌+◌, ◌≤◌, true, false, length, refl, ap, arith}
use Rattle.std.proofs.lemmas.Bool.{false≢true}
use Rattle.cd_autosave.specs.Places.{start_of}
use Rattle.cd_autosave.specs.Image.{Saved}
use Rattle.cd_autosave.proofs.Gating.{length-rest_of}
use Rattle.cd_autosave.proofs.Keeping.{kept_new, stays_new}
use Rattle.cd_autosave.proofs.Writes.{rest_in, fill_moments, fill_gate, fill_whole}
use Rattle.cd_autosave.proofs.slots.Slots.fill.Goals as goal
use Rattle.cd_outside.specs.declared.limits.TheConstants.{MAX_KEPT_BYTES}

pub returns-in-Failed-clause-kept : goal.returns-in-Failed-clause-kept
returns-in-Failed-clause-kept g c =
    let saved : Saved = record { number = c.args.number; text = c.args.text.now } in
    let is : c.start-start.result + 1 ≡ start_of c.args.self.now.next + 1 = ap (λ (n : ℕ). n + 1) c.start-start.ensures.start in
    let few : length c.args.rest.now ≤ 12 + MAX_KEPT_BYTES = omega (arith, ap length c.requires.rest, length-rest_of saved, c.requires.short) in
    kept_new g.D.Disk.seen g.D.Disk.left_now c.args.self.now c.write_through.new.disk c.args.self.now.gate false (c.start-start.result + 1) (length c.args.rest.now) c.requires.kept
    (rest_in c.args.self.now.next (c.start-start.result + 1) (length c.args.rest.now) is few) c.write_through.ensures.torn c.write_through.ensures.left (λ no_more. absurd (false≢true no_more)) (λ no_more. absurd (false≢true no_more))

pub returns-in-Failed-clause-stays : goal.returns-in-Failed-clause-stays
returns-in-Failed-clause-stays g c =
    let saved : Saved = record { number = c.args.number; text = c.args.text.now } in
    let is : c.start-start.result + 1 ≡ start_of c.args.self.now.next + 1 = ap (λ (n : ℕ). n + 1) c.start-start.ensures.start in
    let few : length c.args.rest.now ≤ 12 + MAX_KEPT_BYTES = omega (arith, ap length c.requires.rest, length-rest_of saved, c.requires.short) in
    stays_new g.D.Disk.seen g.D.Disk.left_now c.args.self.now c.write_through.new.disk c.args.self.now.gate false (c.start-start.result + 1) (length c.args.rest.now) c.requires.kept
    (rest_in c.args.self.now.next (c.start-start.result + 1) (length c.args.rest.now) is few) c.write_through.ensures.torn c.write_through.ensures.left

pub returns-in-Failed-clause-meanwhile : goal.returns-in-Failed-clause-meanwhile
returns-in-Failed-clause-meanwhile g c =
    let saved : Saved = record { number = c.args.number; text = c.args.text.now } in
    let is : c.start-start.result + 1 ≡ start_of c.args.self.now.next + 1 = ap (λ (n : ℕ). n + 1) c.start-start.ensures.start in
    let few : length c.args.rest.now ≤ 12 + MAX_KEPT_BYTES = omega (arith, ap length c.requires.rest, length-rest_of saved, c.requires.short) in
    fill_moments g.D.Disk.seen g.D.Disk.left_now g.D.Disk.clock g.D.Disk.left_at g.met.D.Disk.tells c.args.self.now c.write_through.new.disk (c.start-start.result + 1) c.requires.kept c.requires.settled
    (length c.args.rest.now) saved is few c.requires.gate c.write_through.ensures.meanwhile

pub returns-in-All-clause-kept : goal.returns-in-All-clause-kept
returns-in-All-clause-kept g c =
    let saved : Saved = record { number = c.args.number; text = c.args.text.now } in
    let is : c.start-start.result + 1 ≡ start_of c.args.self.now.next + 1 = ap (λ (n : ℕ). n + 1) c.start-start.ensures.start in
    let few : length c.args.rest.now ≤ 12 + MAX_KEPT_BYTES = omega (arith, ap length c.requires.rest, length-rest_of saved, c.requires.short) in
    kept_new g.D.Disk.seen g.D.Disk.left_now c.args.self.now c.write_through.new.disk c.args.self.now.gate true (c.start-start.result + 1) (length c.args.rest.now) c.requires.kept
    (rest_in c.args.self.now.next (c.start-start.result + 1) (length c.args.rest.now) is few) c.write_through.ensures.torn c.write_through.ensures.left
    (λ now. c.write_through.ensures.durable c.in-All.is)
    (λ now. fill_gate g.D.Disk.seen g.D.Disk.left_now g.D.Disk.clock g.D.Disk.left_at g.met.D.Disk.tells c.args.self.now c.write_through.new.disk (c.start-start.result + 1) c.requires.kept c.requires.settled
    c.args.rest.now is c.requires.gate (c.write_through.ensures.written c.in-All.is))

pub returns-in-All-clause-stays : goal.returns-in-All-clause-stays
returns-in-All-clause-stays g c =
    let saved : Saved = record { number = c.args.number; text = c.args.text.now } in
    let is : c.start-start.result + 1 ≡ start_of c.args.self.now.next + 1 = ap (λ (n : ℕ). n + 1) c.start-start.ensures.start in
    let few : length c.args.rest.now ≤ 12 + MAX_KEPT_BYTES = omega (arith, ap length c.requires.rest, length-rest_of saved, c.requires.short) in
    stays_new g.D.Disk.seen g.D.Disk.left_now c.args.self.now c.write_through.new.disk c.args.self.now.gate true (c.start-start.result + 1) (length c.args.rest.now) c.requires.kept
    (rest_in c.args.self.now.next (c.start-start.result + 1) (length c.args.rest.now) is few) c.write_through.ensures.torn c.write_through.ensures.left

pub returns-in-All-clause-meanwhile : goal.returns-in-All-clause-meanwhile
returns-in-All-clause-meanwhile g c =
    let saved : Saved = record { number = c.args.number; text = c.args.text.now } in
    let is : c.start-start.result + 1 ≡ start_of c.args.self.now.next + 1 = ap (λ (n : ℕ). n + 1) c.start-start.ensures.start in
    let few : length c.args.rest.now ≤ 12 + MAX_KEPT_BYTES = omega (arith, ap length c.requires.rest, length-rest_of saved, c.requires.short) in
    fill_moments g.D.Disk.seen g.D.Disk.left_now g.D.Disk.clock g.D.Disk.left_at g.met.D.Disk.tells c.args.self.now c.write_through.new.disk (c.start-start.result + 1) c.requires.kept c.requires.settled
    (length c.args.rest.now) saved is few c.requires.gate c.write_through.ensures.meanwhile

pub returns-in-All-clause-filled : goal.returns-in-All-clause-filled
returns-in-All-clause-filled g c =
    let saved : Saved = record { number = c.args.number; text = c.args.text.now } in
    let is : c.start-start.result + 1 ≡ start_of c.args.self.now.next + 1 = ap (λ (n : ℕ). n + 1) c.start-start.ensures.start in
    λ all. (
      refl,
      fill_whole g.D.Disk.seen g.D.Disk.left_now g.D.Disk.clock g.D.Disk.left_at g.met.D.Disk.tells c.args.self.now c.write_through.new.disk (c.start-start.result + 1) c.requires.kept c.requires.settled
          c.args.rest.now saved is c.requires.rest c.ranges.number.fits c.requires.short (c.write_through.ensures.written c.in-All.is),
    )
