use Rattle.std.proofs.Common.{[], rules, subst}
use Rattle.cd_wire.specs.declared.answer.Answer.{Answer}
use Rattle.cd_gate.specs.Passes.{view}
use Rattle.cd_life.specs.Shares.{conf_in}
use Rattle.cd_serve.specs.declared.how.How.TheVariants as how
use Rattle.cd_serve.specs.Meanings.{Meaning}
use Rattle.cd_serve.specs.Requests.{IsSent}
use Rattle.cd_serve.proofs.Acts.{acted-halted, acted-halted_before, quiet-lacking, another-since}
use Rattle.cd_serve.proofs.Begun.{acted-in-place}
use Rattle.cd_serve.proofs.task.Task.halt.Goals as goal

pub returns-then-halt_host-clause-acted : goal.returns-then-halt_host-clause-acted
returns-then-halt_host-clause-acted g c =
    let h = c.halt_host.ensures.halts c.if-halt_host.true in
    record {
      pass = c.halt_host.ensures.pass;
      owes = search rules;
      acted = acted-halted (record { acts = g.M.ModuleSet.acts; plan = g.M.ModuleSet.plan }) c.args.self.now.means.now.at.now c.args.self.now.request.now (conf_in c.args.ticket.now.share) c.args.ticket.now.serial (view c.args.pass.now) (view c.halt_host.new.pass) h.0 c.send.result (g.L.Lane.past c.args.lane.now) (g.L.Lane.past c.send.new.lane)
          c.requires.decides h.1 h.2 (subst (λ (r : Answer). IsSent c.send.result c.args.self.now.request.now r [] [] (g.L.Lane.past c.args.lane.now) (g.L.Lane.past c.send.new.lane)) c.halted_answer-answer.ensures c.send.ensures.sent) c.send.ensures.made;
    }

pub returns-clause-acted : goal.returns-clause-acted
returns-clause-acted g c =
    let h = c.halt_host.ensures.halted c.if-halt_host.false in
    record {
      pass = c.halt_host.ensures.pass;
      owes = search rules;
      acted = acted-halted_before (record { acts = g.M.ModuleSet.acts; plan = g.M.ModuleSet.plan }) c.args.self.now.means.now.at.now c.args.self.now.request.now (conf_in c.args.ticket.now.share) c.args.ticket.now.serial (view c.args.pass.now) (view c.halt_host.new.pass) (g.L.Lane.past c.args.lane.now)
          c.requires.decides h.0 (λ running. another-since (view c.args.pass.now) (view c.halt_host.new.pass) c.args.ticket.now c.requires.may.ticket h.0.places running h.1);
    }

pub returns-in_default-clause-acted : goal.returns-in_default-clause-acted
returns-in_default-clause-acted g c =
    let m : Meaning = record { acts = g.M.ModuleSet.acts; plan = g.M.ModuleSet.plan } in
    acted-in-place m c.args.self.now.means.now.hall.now c.args.ticket.now c.args.self.now.means.now.at.now c.args.self.now.request.now how.NoMemory c.args.pass.now _ (g.L.Lane.past c.args.lane.now) (g.L.Lane.past c.args.lane.now) c.requires.may
    (quiet-lacking m c.args.self.now.means.now.at.now c.args.self.now.request.now (conf_in c.args.ticket.now.share) c.args.ticket.now.serial (g.L.Lane.past c.args.lane.now))
