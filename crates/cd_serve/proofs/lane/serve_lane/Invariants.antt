use Rattle.std.proofs.Common.{◌≡◌, ◌≤◌, false}
use Rattle.cd_gate.specs.Passes.{view}
use Rattle.cd_hall.specs.Caches.{IsCacheOf}
use Rattle.cd_hall.specs.Calls.{IsPassOf}
use Rattle.cd_serve.specs.Requests.{OwesNothing}
use Rattle.cd_serve.specs.Stepping.{LaneGoesOn}
use Rattle.cd_serve.proofs.lane.serve_lane.Given as goal

abbrev pub invariant-loop : goal.invariant-loop
invariant-loop g l = record {
  turns : (goal.iterator-loop g).can_next l.iterator' × (goal.iterator-loop g).is_finite l.iterator';
  pass : IsPassOf l.hall l.pass;
  free : OwesNothing (view l.pass);
  cache : IsCacheOf (view l.pass) l.cache;
  busy : g.L.Lane.busy l.lane ≡ false;
  later : g.L.Lane.faults l.initial.lane ≤ g.L.Lane.faults l.lane;
  goes : LaneGoesOn (record { acts = g.M.ModuleSet.acts; plan = g.M.ModuleSet.plan }) (g.L.Lane.faults l.initial.lane) (g.L.Lane.faults l.lane) l.counts.answered l.counts.cut 0 (view l.initial.pass) (view l.pass) (g.L.Lane.since l.initial.lane) (g.L.Lane.since l.lane) (g.L.Lane.past l.initial.lane) (g.L.Lane.past l.lane);
}
