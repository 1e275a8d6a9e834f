use Rattle.cd_serve.specs.Meanings.{Meaning}
use Rattle.cd_serve.proofs.Begun.{acted-in-place}
use Rattle.cd_serve.proofs.task.Task.act.Goals as goal

pub returns-in-Nobody-clause-acted : goal.returns-in-Nobody-clause-acted
returns-in-Nobody-clause-acted g c =
    let m : Meaning = record { acts = g.M.ModuleSet.acts; plan = g.M.ModuleSet.plan } in
    acted-in-place m c.args.self.now.means.now.hall.now c.args.ticket.now c.args.self.now.means.now.at.now c.args.self.now.request.now c.answer_if_app.result c.args.pass.now _ (g.L.Lane.past c.args.lane.now) (g.L.Lane.past c.answer_if_app.new.lane) c.requires.may c.answer_if_app.ensures.acted
