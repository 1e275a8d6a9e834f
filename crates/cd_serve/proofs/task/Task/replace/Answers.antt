use Rattle.cd_life.specs.Shares.{conf_in}
use Rattle.cd_serve.specs.declared.how.How.TheVariants as how
use Rattle.cd_serve.specs.Meanings.{Meaning}
use Rattle.cd_serve.proofs.Acts.{quiet-lacking}
use Rattle.cd_serve.proofs.Begun.{acted-in-place}
use Rattle.cd_serve.proofs.task.Task.replace.Goals as goal

pub returns-in-Err-clause-acted : goal.returns-in-Err-clause-acted
returns-in-Err-clause-acted g c =
    let m : Meaning = record { acts = g.M.ModuleSet.acts; plan = g.M.ModuleSet.plan } in
    acted-in-place m c.args.self.now.means.now.hall.now c.args.ticket.now c.args.self.now.means.now.at.now c.args.self.now.request.now how.NoMemory c.args.pass.now _ (g.L.Lane.past c.args.lane.now) (g.L.Lane.past c.args.lane.now) c.requires.may
    (quiet-lacking m c.args.self.now.means.now.at.now c.args.self.now.request.now (conf_in c.args.ticket.now.share) c.args.ticket.now.serial (g.L.Lane.past c.args.lane.now))
