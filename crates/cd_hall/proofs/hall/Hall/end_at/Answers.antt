use Rattle.cd_legal.specs.Legal.{state_at}
use Rattle.cd_gate.specs.Passes.{view}
use Rattle.cd_hall.proofs.Cached.{pass_ended}
use Rattle.cd_hall.proofs.DueThen.{duty_may}
use Rattle.cd_hall.proofs.Requested.{finish_due, finish_settled, finish_duties}
use Rattle.cd_hall.proofs.hall.Hall.end_at.Goals as goal

pub returns-clause-pass : goal.returns-clause-pass
returns-clause-pass g c =
    let t = c.end_request-due.ensures.finishes in
    pass_ended c.args.self.now c.args.pass.now c.end_request-due.new.pass t.0 _ c.requires.pass c.end_request-due.ensures.pass t.1

pub returns-clause-finishes : goal.returns-clause-finishes
returns-clause-finishes g c = let t = c.end_request-due.ensures.finishes in (t.0, t.1, t.2)

pub returns-clause-due : goal.returns-clause-due
returns-clause-due g c found u =
    let t = c.end_request-due.ensures.finishes in
    finish_due (view c.args.pass.now) (view c.end_request-due.new.pass) t.0 found c.args.serial _ _ t.1 t.3 c.duty_of.ensures u

pub returns-clause-settled : goal.returns-clause-settled
returns-clause-settled g c =
    let t = c.end_request-due.ensures.finishes in
    let e = c.end_request-due.ensures.settled in
    (e.0, λ found u. finish_settled (view c.args.pass.now) (view c.end_request-due.new.pass) t.0 found c.args.serial e.0 _ _ t.1 (e.1 t.0 t.1) c.duty_of.ensures u)

pub returns-clause-may : goal.returns-clause-may
returns-clause-may g c = duty_may (state_at (view c.end_request-due.new.pass).seen) c.end_request-due.result c.args.serial _ c.end_request-due.ensures.may c.duty_of.ensures

pub returns-clause-duties : goal.returns-clause-duties
returns-clause-duties g c = finish_duties (view c.args.pass.now) (view c.end_request-due.new.pass) c.end_request-due.result c.args.serial _ c.end_request-due.ensures.duties c.duty_of.ensures
