use Rattle.std.proofs.Common.{◌≡◌, ◌≤◌, ℕ}
use Rattle.cd_outside.specs.Since.{CameWith}
use Rattle.cd_gate.specs.Passes.{view}
use Rattle.cd_serve.specs.Guarding.{HasKeptUp}
use Rattle.cd_serve.specs.Requests.{MayServe}
use Rattle.cd_serve.specs.Stepping.{GoesOn}
use Rattle.cd_serve.proofs.means.Means.serve_connection.Given as goal

abbrev pub invariant-loop : goal.invariant-loop
invariant-loop g l = record {
  turns : (goal.iterator-loop g).can_next l.iterator' × (goal.iterator-loop g).is_finite l.iterator';
  may : MayServe l.self.hall.now l.pass l.cache (g.L.Lane.busy l.lane);
  later : g.L.Lane.faults l.initial.lane ≤ g.L.Lane.faults l.lane;
  since : g.L.Lane.since l.lane ≡ g.L.Lane.since l.initial.lane;
  keeps_up : (since : ℕ) → CameWith (g.L.Lane.since l.initial.lane) since → HasKeptUp since (view l.initial.pass) (view l.pass);
  goes : GoesOn (record { acts = g.M.ModuleSet.acts; plan = g.M.ModuleSet.plan }) l.self.at.now l.session.intake l.session.ended l.session.answered (view l.initial.pass) (view l.pass) (g.L.Lane.past l.initial.lane) (g.L.Lane.past l.lane);
}
