use Rattle.std.proofs.Common.{◌∙◌, refl, sym, subst, arith}
use Rattle.cd_outside.specs.Since.{CameWith}
use Rattle.cd_gate.specs.Passes.{view}
use Rattle.cd_session.proofs.Causes.{risen-later}
use Rattle.cd_serve.proofs.Guarded.{kept-none, ended-keeps-up}
use Rattle.cd_serve.proofs.Stepping.{ended-so, goes-started}
use Rattle.cd_serve.proofs.means.Means.serve_connection.Goals as goal

pub loop-init : goal.loop-init
loop-init g c = record {
  turns = (tt, tt);
  may = c.requires.may;
  later = omega arith;
  since = refl;
  keeps_up = λ since came. kept-none since (view c.args.pass.now);
  goes = goes-started (record { acts = g.M.ModuleSet.acts; plan = g.M.ModuleSet.plan }) c.args.self.now.at.now c.new-session.result.intake c.new-session.result.ended c.new-session.result.answered c.new-session.ensures.intake c.new-session.ensures.ended c.new-session.ensures.answered (view c.args.pass.now) (g.L.Lane.past c.args.lane.now);
}

pub loop-preserved : goal.loop-preserved
loop-preserved g c = record {
  turns = (tt, tt);
  may = c.serve_next.ensures.may;
  later = omega (arith, c.loop.invariant.later, c.in-None-serve_next.ensures.cause);
  since = c.serve_next.ensures.since ∙ c.loop.invariant.since;
  keeps_up = λ since came. c.in-None-serve_next.ensures.keeps_up since (view c.args.pass.now) (g.L.Lane.past c.args.lane.now) (subst (λ told. CameWith told since) (sym c.loop.invariant.since) came) c.loop.invariant.goes (c.loop.invariant.keeps_up since came);
  goes = c.in-None-serve_next.ensures.steps (view c.args.pass.now) (g.L.Lane.past c.args.lane.now) c.loop.invariant.goes;
}

pub returns-in-Some-serve_next-clause-ends : goal.returns-in-Some-serve_next-clause-ends
returns-in-Some-serve_next-clause-ends g c =
    ended-so (record { acts = g.M.ModuleSet.acts; plan = g.M.ModuleSet.plan }) c.args.self.now.at.now c.in-Some-serve_next.end (view c.args.pass.now) (view c.serve_next.new.pass) (g.L.Lane.past c.args.lane.now) (g.L.Lane.past c.serve_next.new.lane) (g.L.Lane.past c.end.new.self)
    (g.L.Lane.faults c.args.lane.now) (g.L.Lane.faults c.serve_next.new.lane) (g.L.Lane.faults c.end.new.self) c.end.ensures.past c.end.ensures.faults
    (record {
      served = c.in-Some-serve_next.ensures.steps (view c.args.pass.now) (g.L.Lane.past c.args.lane.now) c.loop.invariant.goes;
      cause = risen-later c.in-Some-serve_next.end.cause (g.L.Lane.faults c.args.lane.now) (g.L.Lane.faults c.loop.lane) (g.L.Lane.faults c.serve_next.new.lane) c.loop.invariant.later c.in-Some-serve_next.ensures.cause;
      halted = c.in-Some-serve_next.ensures.halted;
    })

pub returns-in-Some-serve_next-clause-keeps_up : goal.returns-in-Some-serve_next-clause-keeps_up
returns-in-Some-serve_next-clause-keeps_up g c since came =
    ended-keeps-up since c.in-Some-serve_next.end (view c.args.pass.now) (view c.serve_next.new.pass) (g.L.Lane.past c.args.lane.now) (g.L.Lane.past c.serve_next.new.lane) (g.L.Lane.past c.end.new.self) c.end.ensures.past
    (c.in-Some-serve_next.ensures.keeps_up since (view c.args.pass.now) (g.L.Lane.past c.args.lane.now) (subst (λ told. CameWith told since) (sym c.loop.invariant.since) came) c.loop.invariant.goes (c.loop.invariant.keeps_up since came))
