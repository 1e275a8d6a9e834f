use Rattle.std.proofs.Common.{refl, ◌∙◌}
use Rattle.cd_desk.proofs.Trims.{trims_on, trim_keeps, left_stays, closing_stays, clean_stays, retire_stays, cleared_stays}
use Rattle.cd_desk.proofs.desk.Desk.closed.Goals as goal

pub returns-clause-keeps : goal.returns-clause-keeps
returns-clause-keeps g c = trim_keeps g.F.Fixtures.calls c.args.self.now c.trim.new.books (trims_on c.args.self.now.books c.clear.new.books c.trim.new.books c.clear.ensures.trims c.trim.ensures.trims)

pub returns-clause-drafts : goal.returns-clause-drafts
returns-clause-drafts g c = c.trim.ensures.trims.next ∙ c.clear.ensures.trims.next

pub returns-clause-lefts : goal.returns-clause-lefts
returns-clause-lefts g c = left_stays c.args.self.now.books c.trim.new.books (trims_on c.args.self.now.books c.clear.new.books c.trim.new.books c.clear.ensures.trims c.trim.ensures.trims)

pub returns-clause-closings : goal.returns-clause-closings
returns-clause-closings g c other is = closing_stays c.args.self.now.books c.trim.new.books (trims_on c.args.self.now.books c.clear.new.books c.trim.new.books c.clear.ensures.trims c.trim.ensures.trims) c.args.self.now refl other is

pub returns-clause-clean : goal.returns-clause-clean
returns-clause-clean g c = clean_stays c.args.self.now.books c.trim.new.books (trims_on c.args.self.now.books c.clear.new.books c.trim.new.books c.clear.ensures.trims c.trim.ensures.trims)

pub returns-clause-retire : goal.returns-clause-retire
returns-clause-retire g c n can = retire_stays c.args.self.now.books c.trim.new.books (trims_on c.args.self.now.books c.clear.new.books c.trim.new.books c.clear.ensures.trims c.trim.ensures.trims) c.args.self.now refl n can

pub returns-clause-cleared : goal.returns-clause-cleared
returns-clause-cleared g c = cleared_stays c.clear.new.books c.trim.new.books c.trim.ensures.trims _ c.clear.ensures.cleared
