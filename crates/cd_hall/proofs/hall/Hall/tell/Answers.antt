use Rattle.cd_gate.specs.Passes.{view}
use Rattle.cd_hall.proofs.Rows.{told_pass, told_same}
use Rattle.cd_hall.proofs.hall.Hall.tell.Goals as goal

pub returns-clause-to : goal.returns-clause-to
returns-clause-to g c =
    told_pass c.args.self.now c.args.to.now c.args.from.now c.tell.new.to c.requires.to c.requires.from c.tell.ensures.to.0 c.tell.ensures.to.1 c.tell.ensures.seen.0 c.tell.ensures.seen.1

pub returns-clause-same : goal.returns-clause-same
returns-clause-same g c = told_same (view c.args.to.now) (view c.tell.new.to) _ c.tell.ensures.to.1
