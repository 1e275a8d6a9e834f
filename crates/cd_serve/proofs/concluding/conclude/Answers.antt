use Rattle.std.proofs.Common.{◌∙◌, ◌++◌, List, ℕ, ap}
use Rattle.std.proofs.lemmas.List.{append-nil}
use Rattle.cd_gate.specs.Passes.{view}
use Rattle.cd_hall.specs.Calls.{duties_in}
use Rattle.cd_serve.proofs.Conclusions.{ended_ticket, ended_draft}
use Rattle.cd_serve.proofs.LetGo.{let-go-cache, let-go-unretired}
use Rattle.cd_serve.proofs.concluding.conclude.Goals as goal

pub retire_due-requires-clause-duties : goal.retire_due-requires-clause-duties
retire_due-requires-clause-duties g c κs within =
    let duty = duties_in c.finish_now-duty.result in
    c.finish_now-duty.ensures.duties ∙ (ap (λ (l : List ℕ). duty ++ l) c.requires.duties ∙ append-nil duty)

pub returns-clause-cache : goal.returns-clause-cache
returns-clause-cache g c =
    c.caches_keep_their_configurations.ensures (view c.finish_now-duty.new.pass) (view c.retire_due.new.pass)
    (let-go-cache (view c.finish_now-duty.new.pass) c.finish_now-duty.new.cache c.let_go_where.new.cache c.let_go_where.ensures.kept c.finish_now-duty.ensures.cache) c.retire_due.ensures.seen c.retire_due.ensures.pass.history

pub returns-clause-concluded : goal.returns-clause-concluded
returns-clause-concluded g c =
    let f = c.finish_now-duty.ensures.finishes in
    c.retire_due.ensures.concluded (view c.args.pass.now) c.args.ticket.serial f.0 f.1 f.2 (c.finish_now-duty.ensures.due f.0 f.1)

pub returns-clause-ticket : goal.returns-clause-ticket
returns-clause-ticket g c = c.retire_due.ensures.ticket ∙ ended_ticket (view c.args.pass.now) (view c.finish_now-duty.new.pass) c.finish_now-duty.ensures.finishes.1.grows.owes

pub returns-clause-draft : goal.returns-clause-draft
returns-clause-draft g c = c.retire_due.ensures.draft ∙ ended_draft (view c.args.pass.now) (view c.finish_now-duty.new.pass) c.finish_now-duty.ensures.finishes.1.grows.owes

pub returns-clause-unretired : goal.returns-clause-unretired
returns-clause-unretired g c =
    let f = c.finish_now-duty.ensures.finishes in
    let-go-unretired (view c.args.pass.now) (view c.finish_now-duty.new.pass) (view c.retire_due.new.pass) f.0 c.args.ticket c.finish_now-duty.result c.finish_now-duty.new.cache c.let_go_where.new.cache
    f.1 f.2 c.finish_now-duty.ensures.kept c.let_go_where.ensures.kept c.let_go_where.ensures.due c.retire_due.ensures.quiet
