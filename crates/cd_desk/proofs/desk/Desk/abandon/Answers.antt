use Rattle.cd_desk.proofs.Standing.{adds}
use Rattle.cd_desk.proofs.Ending.{abandons}
use Rattle.cd_desk.proofs.Closings.{can_abandon, abandoned_rest, abandoned_may}
use Rattle.cd_desk.proofs.desk.Desk.abandon.Goals as goal

pub place_of-place-requires : goal.place_of-place-requires
place_of-place-requires g c = let i = c.requires.1 in record { there = (i.place, i.row, i.at) }

pub returns-clause-entry : goal.returns-clause-entry
returns-clause-entry g c =
    adds g.F.Fixtures.calls c.args.self.now _ _ (abandons g.F.Fixtures.calls c.args.self.now c.set_life.new.books c.args.left.number c.place_of-place.result (can_abandon c.args.self.now.books c.requires.0 c.args.left c.requires.1) c.place_of-place.ensures.at c.set_life.ensures.lives)

pub returns-clause-at : goal.returns-clause-at
returns-clause-at g c = record {
  superseded = λ n e. cc;
  rest = λ more. abandoned_rest c.args.self.now.books c.set_life.new.books c.requires.0 c.args.left c.place_of-place.result c.place_of-place.ensures.at c.set_life.ensures.lives c.requires.1;
}

pub returns-clause-clean : goal.returns-clause-clean
returns-clause-clean g c = abandoned_may c.args.self.now.books c.set_life.new.books c.args.left.number c.place_of-place.result c.place_of-place.ensures.at c.set_life.ensures.lives
