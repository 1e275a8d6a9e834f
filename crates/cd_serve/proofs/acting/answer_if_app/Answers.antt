use Rattle.std.proofs.Common.{[], List, subst, inl, ap}
use Rattle.std.specs.Prelude.{Option, map, option_map}
use Rattle.cd_outside.specs.declared.past.Logged.{Logged}
use Rattle.cd_life.specs.Shares.{conf_in}
use Rattle.cd_serve.specs.Meanings.{Meaning, Responds, logged}
use Rattle.cd_serve.specs.declared.responding.Response.{Response}
use Rattle.cd_serve.specs.Requests.{IsSent}
use Rattle.cd_serve.proofs.Acts.{quiet-answer, quiet-lacking, quiet-unanswered}
use Rattle.cd_serve.proofs.Responders.{neither-is-nobody}
use Rattle.cd_serve.proofs.acting.answer_if_app.Goals as goal

pub returns-in-Ok-Some-clause-acted : goal.returns-in-Ok-Some-clause-acted
returns-in-Ok-Some-clause-acted g c =
    let m : Meaning = record { acts = g.M.ModuleSet.acts; plan = g.M.ModuleSet.plan } in
    quiet-answer m c.args.at.now c.args.request.now (conf_in c.args.ticket.now.share) c.args.ticket.now.serial c.in-Ok-Some.response.answer (map logged c.in-Ok-Some.response.lines) c.reply_by.result (g.L.Lane.past c.args.lane.now) (g.L.Lane.past c.reply_by.new.lane)
    (inl (subst (λ (o : Option Response). Responds m (conf_in c.args.ticket.now.share) c.args.at.now c.args.request.now (option_map (λ r. (r.answer, map logged r.lines)) o)) c.in-Ok-Some.field-0-is c.in-Ok-Some.ensures)) (subst (λ (ls : List Logged). IsSent c.reply_by.result c.args.request.now c.in-Ok-Some.response.answer ls [] (g.L.Lane.past c.args.lane.now) (g.L.Lane.past c.reply_by.new.lane)) (ap (map logged) c.as_slice.ensures) c.reply_by.ensures.sent)

pub returns-in-Ok-None-clause-acted : goal.returns-in-Ok-None-clause-acted
returns-in-Ok-None-clause-acted g c =
    let m : Meaning = record { acts = g.M.ModuleSet.acts; plan = g.M.ModuleSet.plan } in
    quiet-unanswered m c.args.at.now c.args.request.now (conf_in c.args.ticket.now.share) c.args.ticket.now.serial c.unanswered.result (g.L.Lane.past c.args.lane.now)
    (neither-is-nobody _ (subst (λ (o : Option Response). Responds m (conf_in c.args.ticket.now.share) c.args.at.now c.args.request.now (option_map (λ r. (r.answer, map logged r.lines)) o)) c.in-Ok-None.field-0-is c.in-Ok-None.ensures) c.requires.others) c.unanswered.ensures.outcome

pub returns-in-Err-clause-acted : goal.returns-in-Err-clause-acted
returns-in-Err-clause-acted g c =
    quiet-lacking (record { acts = g.M.ModuleSet.acts; plan = g.M.ModuleSet.plan }) c.args.at.now c.args.request.now (conf_in c.args.ticket.now.share) c.args.ticket.now.serial (g.L.Lane.past c.args.lane.now)
