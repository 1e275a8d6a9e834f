use Rattle.cd_desk.proofs.Standing.{adds}
use Rattle.cd_desk.proofs.Ending.{publishes}
use Rattle.cd_desk.proofs.desk.Desk.publish.Goals as goal

pub returns-clause-entry : goal.returns-clause-entry
returns-clause-entry g c change =
    adds g.F.Fixtures.calls c.args.self.now _ _ (publishes g.F.Fixtures.calls c.args.self.now c.set_life.new.books c.args.draft c.place_of-place.result change c.requires.can c.place_of-place.ensures.at c.set_life.ensures.lives)
