use Rattle.cd_legal.specs.declared.part.Part.TheVariants.{App}
use Rattle.cd_desk.proofs.Openings.{can_open, opens_entry}
use Rattle.cd_desk.proofs.desk.Desk.start.Goals as goal

pub start_in-requires : goal.start_in-requires
start_in-requires g c = record { can = can_open App c.args.self.now.books c.args.draft c.place_of-place.result c.requires.can c.place_of-place.ensures.at }

pub returns-clause-entry : goal.returns-clause-entry
returns-clause-entry g c = opens_entry g.F.Fixtures.calls App c.args.self.now c.start_in.new.fixtures c.start_in.new.books c.args.draft c.place_of-place.result c.start_in.result c.requires.can c.place_of-place.ensures.at c.start_in.ensures.opens
