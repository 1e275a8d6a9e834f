use Rattle.std.proofs.Common.{◌∙◌, Some, refl, sym, subst, arith}
use Rattle.cd_outside.specs.Since.{CameWith}
use Rattle.cd_gate.specs.Passes.{view}
use Rattle.cd_serve.proofs.Guarded.{kept-none, kept-again, request-after}
use Rattle.cd_serve.proofs.Begun.{repeats-none, repeats-more, served-after}
use Rattle.cd_serve.proofs.task.Task.serve_request.Goals as goal

pub loop-init : goal.loop-init
loop-init g c = record {
  turns = (tt, tt);
  may = c.requires.may;
  later = omega arith;
  since = refl;
  keeps_up = λ since came. kept-none since (view c.args.pass.now);
  repeats = repeats-none (record { acts = g.M.ModuleSet.acts; plan = g.M.ModuleSet.plan }) c.args.self.now.means.now.at.now c.args.self.now.request.now (view c.args.pass.now) (g.L.Lane.past c.args.lane.now);
}

pub loop-preserved : goal.loop-preserved
loop-preserved g c = record {
  turns = (tt, tt);
  may = c.serve_once.ensures.may;
  later = omega (arith, c.loop.invariant.later, c.serve_once.ensures.lane.later);
  since = c.serve_once.ensures.since ∙ c.loop.invariant.since;
  keeps_up = λ since came.
      kept-again since (view c.args.pass.now) (view c.loop.pass) (view c.serve_once.new.pass) (g.L.Lane.past c.loop.lane) (g.L.Lane.past c.serve_once.new.lane) (c.loop.invariant.keeps_up since came)
      (c.in-None-serve_once.ensures.keeps_up since (subst (λ told. CameWith told since) (sym c.loop.invariant.since) came));
  repeats = repeats-more (record { acts = g.M.ModuleSet.acts; plan = g.M.ModuleSet.plan }) c.args.self.now.means.now.at.now c.args.self.now.request.now (view c.args.pass.now) (view c.loop.pass) (view c.serve_once.new.pass) (g.L.Lane.past c.args.lane.now) (g.L.Lane.past c.loop.lane) (g.L.Lane.past c.serve_once.new.lane) c.loop.invariant.repeats c.in-None-serve_once.ensures.served;
}

pub returns-in-Some-serve_once-clause-served : goal.returns-in-Some-serve_once-clause-served
returns-in-Some-serve_once-clause-served g c =
    served-after (record { acts = g.M.ModuleSet.acts; plan = g.M.ModuleSet.plan }) c.args.self.now.means.now.at.now c.args.self.now.request.now c.in-Some-serve_once.how (view c.args.pass.now) (view c.loop.pass) (view c.serve_once.new.pass) (g.L.Lane.past c.args.lane.now) (g.L.Lane.past c.loop.lane) (g.L.Lane.past c.serve_once.new.lane) c.loop.invariant.repeats c.in-Some-serve_once.ensures.served

pub returns-in-Some-serve_once-clause-keeps_up : goal.returns-in-Some-serve_once-clause-keeps_up
returns-in-Some-serve_once-clause-keeps_up g c since came =
    request-after since (Some c.in-Some-serve_once.how) (view c.args.pass.now) (view c.loop.pass) (view c.serve_once.new.pass) (g.L.Lane.past c.args.lane.now) (g.L.Lane.past c.loop.lane) (g.L.Lane.past c.serve_once.new.lane)
    (c.loop.invariant.keeps_up since came) c.loop.invariant.repeats.past (c.in-Some-serve_once.ensures.keeps_up since (subst (λ told. CameWith told since) (sym c.loop.invariant.since) came))
