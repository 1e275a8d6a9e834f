use Rattle.std.proofs.Common.{ap}
use Rattle.cd_legal.proofs.Histories.{first}
use Rattle.cd_gate.specs.declared.view.View.{View}
use Rattle.cd_gate.specs.Counts.{is_noted}
use Rattle.cd_gate.specs.Passes.{view}
use Rattle.cd_hall.proofs.Goes.{goes_noted}
use Rattle.cd_hall.proofs.Turning.{added}
use Rattle.cd_hall.proofs.turns.add.Goals as goal

pub returns-clause-turn : goal.returns-clause-turn
returns-clause-turn g c =
    let t = c.note.ensures.noted in
    added g.T.Stands.stands c.args.gate.now c.args.turn.now c.note.new.turn c.args.pass.now c.note.new.pass (g.N.Names.entry c.args.about.now) t.0
    c.requires.knows c.requires.may c.requires.board c.note.ensures.pass t.1 t.3 t.2 c.note.ensures.same

pub returns-clause-goes : goal.returns-clause-goes
returns-clause-goes g c =
    let t = c.note.ensures.noted in
    goes_noted (view c.args.pass.now) (view c.note.new.pass) t.0 (g.N.Names.entry c.args.about.now) c.requires.knows t.1 t.3 (first (is_noted (g.N.Names.entry c.args.about.now)) _ c.requires.may) t.2

pub returns-clause-unsettled : goal.returns-clause-unsettled
returns-clause-unsettled g c = ap (λ (z : View g.row.T.Denot). z.unsettled) c.note.ensures.noted.2
