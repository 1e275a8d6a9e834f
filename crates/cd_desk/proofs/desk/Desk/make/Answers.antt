use Rattle.cd_legal.specs.declared.part.Part.TheVariants.{Instance}
use Rattle.cd_desk.proofs.Openings.{can_open, opens_entry}
use Rattle.cd_desk.proofs.desk.Desk.make.Goals as goal

pub make_in-requires : goal.make_in-requires
make_in-requires g c = record { can = can_open Instance c.args.self.now.books c.args.draft c.place_of-place.result c.requires.can c.place_of-place.ensures.at }

pub returns-clause-entry : goal.returns-clause-entry
returns-clause-entry g c = opens_entry g.F.Fixtures.calls Instance c.args.self.now c.make_in.new.fixtures c.make_in.new.books c.args.draft c.place_of-place.result c.make_in.result c.requires.can c.place_of-place.ensures.at c.make_in.ensures.opens
