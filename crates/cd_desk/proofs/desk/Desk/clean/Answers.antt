use Rattle.std.proofs.Common.{ℕ, subst, arith}
use Rattle.cd_legal.specs.declared.part.Part.TheVariants.{Instance}
use Rattle.cd_legal.specs.declared.entry.Entry.TheVariants.{Cleaned}
use Rattle.cd_desk.specs.Desks.{AddsTo}
use Rattle.cd_desk.proofs.Standing.{adds}
use Rattle.cd_desk.proofs.Stoppings.{can_clean, can_end, rest_cleaned, last_instance, may_on, cleans}
use Rattle.cd_desk.proofs.desk.Desk.clean.Goals as goal

pub place_of-place-requires : goal.place_of-place-requires
place_of-place-requires g c = let can = can_clean c.args.self.now c.args.closing.now c.requires.at c.requires.stopped c.requires.more c.requires.may in record { there = (can.place, can.row, can.at) }

pub clean_in-requires : goal.clean_in-requires
clean_in-requires g c = record { can = can_end Instance c.args.self.now c.args.closing.now.number c.place_of-place.result (can_clean c.args.self.now c.args.closing.now c.requires.at c.requires.stopped c.requires.more c.requires.may) c.place_of-place.ensures.at }

pub returns-clause-entry : goal.returns-clause-entry
returns-clause-entry g c =
    let v = c.args.self.now in
    let k = c.args.closing.now in
    let number = c.place_of-place.ensures.at in
    let o = c.clean_in.ensures.ends in
    let can = can_clean v k c.requires.at c.requires.stopped c.requires.more c.requires.may in
    let i = last_instance v.books c.clean_in.new.books k c.place_of-place.result number (c.requires.at.rest (omega (arith, c.requires.more))) o.changes in
    subst (λ (z : ℕ). AddsTo g.F.Fixtures.calls v (record v { fixtures = c.clean_in.new.fixtures; books = c.clean_in.new.books }) (Cleaned k.number z)) i
    (adds g.F.Fixtures.calls v _ _ (cleans g.F.Fixtures.calls v c.clean_in.new.fixtures c.clean_in.new.books k.number c.place_of-place.result can number o))

pub returns-clause-at : goal.returns-clause-at
returns-clause-at g c = record {
  superseded = c.requires.at.superseded;
  rest = λ more. rest_cleaned c.args.self.now.books c.clean_in.new.books c.args.closing.now c.place_of-place.result _ _ c.place_of-place.ensures.at (c.requires.at.rest (omega (arith, c.requires.more))) c.clean_in.ensures.ends c.requires.more;
}

pub returns-clause-clean : goal.returns-clause-clean
returns-clause-clean g c = may_on Instance c.args.self.now.books c.clean_in.new.books c.args.closing.now.number c.place_of-place.result _ _ c.place_of-place.ensures.at c.clean_in.ensures.ends c.requires.may
