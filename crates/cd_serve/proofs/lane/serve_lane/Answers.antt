use Rattle.std.proofs.Common.{ℕ, Bool, cond, subst, arith, rules}
use Rattle.cd_gate.specs.Passes.{view}
use Rattle.cd_serve.specs.Meanings.{Meaning}
use Rattle.cd_serve.specs.Stepping.{LaneGoesOn}
use Rattle.cd_serve.proofs.LaneStepping.{lane-started, lane-halted, placed-fresh}
use Rattle.cd_serve.proofs.lane.serve_lane.Goals as goal

pub loop-init : goal.loop-init
loop-init g c = record {
  turns = (tt, tt);
  pass = c.requires.pass;
  free = c.requires.free;
  cache = search rules;
  busy = c.requires.busy;
  later = omega arith;
  goes = lane-started (record { acts = g.M.ModuleSet.acts; plan = g.M.ModuleSet.plan }) (g.L.Lane.faults c.args.lane.now) c.new-counts.result c.new-counts.ensures (view c.args.pass.now) (g.L.Lane.since c.args.lane.now) (g.L.Lane.past c.args.lane.now);
}

pub returns-then-serve_accepted-clause-served : goal.returns-then-serve_accepted-clause-served
returns-then-serve_accepted-clause-served g c =
    let m : Meaning = record { acts = g.M.ModuleSet.acts; plan = g.M.ModuleSet.plan } in
    let v = view c.args.pass.now in
    let x = view c.serve_accepted.new.pass in
    let old = g.L.Lane.past c.args.lane.now in
    let then = g.L.Lane.past c.loop.lane in
    let now = g.L.Lane.past c.serve_accepted.new.lane in
    let since = g.L.Lane.since c.args.lane.now in
    let told = g.L.Lane.since c.loop.lane in
    let told_now = g.L.Lane.since c.serve_accepted.new.lane in
    let first : ℕ = g.L.Lane.faults c.args.lane.now in
    let failed : ℕ = g.L.Lane.faults c.serve_accepted.new.lane in
    let counts = c.serve_accepted.new.counts in
    let going : LaneGoesOn m first failed counts.answered counts.cut (cond c.serve_accepted.result 1 0) v x since told_now old now =
    c.serve_accepted.ensures.goes v old then since told first (g.L.Lane.faults c.loop.lane) c.loop.invariant.goes c.in-Connection.ensures.since c.in-Connection.ensures.cause.later c.in-Connection.ensures.past in
    lane-halted m first failed counts.answered counts.cut c.end-then-serve_accepted.result c.in-Connection.at v x since told_now old now c.end-then-serve_accepted.ensures (c.serve_accepted.ensures.last then c.in-Connection.ensures.past)
    (subst (λ (b : Bool). LaneGoesOn m first failed counts.answered counts.cut (cond b 1 0) v x since told_now old now) c.if-serve_accepted.true going)

pub returns-then-serve_accepted-clause-fresh : goal.returns-then-serve_accepted-clause-fresh
returns-then-serve_accepted-clause-fresh g c =
    let v = view c.args.pass.now in
    let x = view c.serve_accepted.new.pass in
    let going = c.serve_accepted.ensures.goes v (g.L.Lane.past c.args.lane.now) (g.L.Lane.past c.loop.lane) (g.L.Lane.since c.args.lane.now) (g.L.Lane.since c.loop.lane) (g.L.Lane.faults c.args.lane.now) (g.L.Lane.faults c.loop.lane) c.loop.invariant.goes c.in-Connection.ensures.since c.in-Connection.ensures.cause.later c.in-Connection.ensures.past in
    placed-fresh (record { acts = g.M.ModuleSet.acts; plan = g.M.ModuleSet.plan }) v x going.own going.made

pub returns-in-Ended-clause-fresh : goal.returns-in-Ended-clause-fresh
returns-in-Ended-clause-fresh g c =
    let going = c.loop.invariant.goes in
    placed-fresh (record { acts = g.M.ModuleSet.acts; plan = g.M.ModuleSet.plan }) (view c.args.pass.now) (view c.loop.pass) going.own going.made

pub returns-in-Failed-clause-fresh : goal.returns-in-Failed-clause-fresh
returns-in-Failed-clause-fresh g c =
    let going = c.loop.invariant.goes in
    placed-fresh (record { acts = g.M.ModuleSet.acts; plan = g.M.ModuleSet.plan }) (view c.args.pass.now) (view c.loop.pass) going.own going.made
