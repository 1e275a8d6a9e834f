use Rattle.std.proofs.Common.{◌≡◌, ◌+◌, ℕ, [], List, Option, rules, subst, ap, ◌∙◌}
use Rattle.cd_outside.specs.declared.past.KeepRecord.{KeepRecord}
use Rattle.cd_wire.specs.declared.answer.Answer.{Answer}
use Rattle.cd_legal.specs.Legal.{state_at}
use Rattle.cd_legal.specs.Placed.{Placed, placed_entries}
use Rattle.cd_legal.specs.Serials.{publishings}
use Rattle.cd_gate.specs.Passes.{view}
use Rattle.cd_life.specs.Shares.{conf_in}
use Rattle.cd_admin.specs.Answers.{done}
use Rattle.cd_serve.specs.Meanings.{Meaning, keeps_of}
use Rattle.cd_serve.specs.Requests.{IsSent, keeps_as}
use Rattle.cd_serve.proofs.Acts.{acted-published, acted-refused, acted-superseded, acted-lacking}
use Rattle.cd_serve.proofs.KeptFirst.{keeps-same}
use Rattle.cd_serve.proofs.LetGo.{none-refused, nothing-placed}
use Rattle.cd_serve.proofs.task.Task.make_change.Goals as goal

pub returns-in-Published-clause-acted : goal.returns-in-Published-clause-acted
returns-in-Published-clause-acted g c =
    let m : Meaning = record { acts = g.M.ModuleSet.acts; plan = g.M.ModuleSet.plan } in
    let a = c.in-Published.ensures.attempted in
    let v = view c.args.pass.now in
    let w = view c.attempt_change.new.pass in
    let ready = c.requires.ready in
    let kept : keeps_as c.args.ready.now.serial c.args.ready.now.text ≡ keeps_of (c.args.ticket.now.serial + 1) c.args.loaded.tree =
    ap (λ (n : ℕ). keeps_as n c.args.ready.now.text) ready.serial_is
    ∙ (ap (λ (made : Option (List ℕ)). keeps_as (c.args.ticket.now.serial + 1) made) ready.text_is ∙ keeps-same (c.args.ticket.now.serial + 1) c.args.loaded.tree) in
    record {
      pass = c.attempt_change.ensures.pass;
      owes = search rules;
      acted = acted-published m c.args.self.now.means.now.at.now c.args.self.now.request.now (conf_in c.args.ticket.now.share) c.args.ticket.now.serial v w c.args.loaded.tree a.0 c.acknowledge.result (g.L.Lane.past c.args.lane.now) (g.L.Lane.past c.acknowledge.new.lane)
          c.requires.decides a.1 a.2
          (subst (λ (keeps : List KeepRecord). IsSent c.acknowledge.result c.args.self.now.request.now done [] keeps (g.L.Lane.past c.args.lane.now) (g.L.Lane.past c.acknowledge.new.lane)) kept
          (subst (λ (r : Answer). IsSent c.acknowledge.result c.args.self.now.request.now r [] (keeps_as c.args.ready.now.serial c.args.ready.now.text) (g.L.Lane.past c.args.lane.now) (g.L.Lane.past c.acknowledge.new.lane)) c.requires.answer c.acknowledge.ensures.sent)) c.acknowledge.ensures.made;
    }

pub returns-in-Superseded-clause-acted : goal.returns-in-Superseded-clause-acted
returns-in-Superseded-clause-acted g c =
    let m : Meaning = record { acts = g.M.ModuleSet.acts; plan = g.M.ModuleSet.plan } in
    let a = c.in-Superseded.ensures.attempted in
    let v = view c.args.pass.now in
    let w = view c.attempt_change.new.pass in
    record {
      pass = c.attempt_change.ensures.pass;
      owes = search rules;
      acted = acted-superseded m c.args.self.now.means.now.at.now c.args.self.now.request.now (conf_in c.args.ticket.now.share) c.args.ticket.now.serial v w c.args.loaded.tree a.0 (g.L.Lane.past c.args.lane.now) c.requires.decides a.1 a.2;
    }

pub returns-in-Refused-clause-acted : goal.returns-in-Refused-clause-acted
returns-in-Refused-clause-acted g c =
    let m : Meaning = record { acts = g.M.ModuleSet.acts; plan = g.M.ModuleSet.plan } in
    let a = c.in-Refused.ensures.attempted in
    let v = view c.args.pass.now in
    let w = view c.attempt_change.new.pass in
    record {
      pass = c.attempt_change.ensures.pass;
      owes = search rules;
      acted = acted-refused m c.args.self.now.means.now.at.now c.args.self.now.request.now (conf_in c.args.ticket.now.share) c.args.ticket.now.serial v w c.args.loaded.tree c.in-Refused.fault a.0 c.refuse.result (g.L.Lane.past c.args.lane.now) (g.L.Lane.past c.refuse.new.lane)
          c.requires.decides a.1 a.2 c.refuse.ensures.sent;
    }

pub returns-in-Lacking-clause-acted : goal.returns-in-Lacking-clause-acted
returns-in-Lacking-clause-acted g c =
    let a = c.in-Lacking.ensures.attempted in
    record {
      pass = c.attempt_change.ensures.pass;
      owes = search rules;
      acted = acted-lacking (record { acts = g.M.ModuleSet.acts; plan = g.M.ModuleSet.plan }) c.args.self.now.means.now.at.now c.args.self.now.request.now (conf_in c.args.ticket.now.share) c.args.ticket.now.serial (view c.args.pass.now) (view c.attempt_change.new.pass) a.0 (g.L.Lane.past c.args.lane.now) a.1 a.2;
    }

pub returns-in-Refused-clause-noted : goal.returns-in-Refused-clause-noted
returns-in-Refused-clause-noted g c is =
    let m : Meaning = record { acts = g.M.ModuleSet.acts; plan = g.M.ModuleSet.plan } in
    let a = c.in-Refused.ensures.attempted in
    let v = view c.args.pass.now in
    let w = view c.attempt_change.new.pass in
    nothing-placed v w a.0 a.1.places (none-refused m c.args.loaded.tree c.args.self.now.request.now v.number c.args.ticket.now.serial (state_at w.seen) a.0 c.in-Refused.fault a.2)

pub returns-in-Lacking-clause-noted : goal.returns-in-Lacking-clause-noted
returns-in-Lacking-clause-noted g c is =
    let a = c.in-Lacking.ensures.attempted in
    nothing-placed (view c.args.pass.now) (view c.attempt_change.new.pass) a.0 a.1.places (ap (λ (ps : List Placed). publishings (placed_entries ps)) a.2)
