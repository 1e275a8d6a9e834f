use Rattle.std.proofs.Common.{rules, ◌≡◌, true}
use Rattle.cd_gate.specs.Passes.{view}
use Rattle.cd_hall.proofs.Begun.{begun_now}
use Rattle.cd_hall.proofs.Cached.{stays_both}
use Rattle.cd_hall.proofs.requests.begin_request.Goals as goal

pub returns-clause-pass : goal.returns-clause-pass
returns-clause-pass g c = stays_both c.args.gate.now c.args.pass.now c.check.new.pass c.begin_step.new.pass c.check.ensures.pass c.begin_step.ensures.pass

pub returns-clause-begun : goal.returns-clause-begun
returns-clause-begun g c =
    let yes : c.check.result ≡ true = search rules in
    let t = c.check.ensures.room yes in
    let b = c.begin_step.ensures.begins in
    (b.0, begun_now (view c.args.pass.now) (view c.check.new.pass) (view c.begin_step.new.pass) c.begin_step.result t.0 b.0 t.1 t.2 t.3 b.1)
