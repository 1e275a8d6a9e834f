use Rattle.std.proofs.Common.{◌≡◌, ◌+◌, ℕ, cond, min, sym, subst, arith}
use Rattle.cd_outside.specs.Counts.{count_end}
use Rattle.cd_gate.specs.Passes.{view}
use Rattle.cd_serve.specs.Meanings.{Meaning}
use Rattle.cd_serve.specs.Serving.{cut_by}
use Rattle.cd_serve.specs.Stepping.{LaneGoesOn}
use Rattle.cd_serve.proofs.LaneStepping.{lane-more, connection-last}
use Rattle.cd_serve.proofs.lane.serve_accepted.Goals as goal

pub returns-clause-goes : goal.returns-clause-goes
returns-clause-goes g c v old then since told first faults so_far with_it le came =
    let m : Meaning = record { acts = g.M.ModuleSet.acts; plan = g.M.ModuleSet.plan } in
    let n : ℕ = c.args.counts.now.answered in
    let e = c.serve_connection-end.result in
    let failed = g.L.Lane.faults c.serve_connection-end.new.lane in
    let x = view c.serve_connection-end.new.pass in
    let past = g.L.Lane.past c.serve_connection-end.new.lane in
    let told_now = g.L.Lane.since c.serve_connection-end.new.lane in
    let none : 0 + cond {A = ℕ} e.halted 1 0 ≡ cond {A = ℕ} e.halted 1 0 = omega arith in
    subst (λ (a : ℕ). LaneGoesOn m first failed a c.add.new.self.cut (cond e.halted 1 0) v x since told_now old past) (sym c.add.ensures.answered)
    (subst (λ (a : ℕ). LaneGoesOn m first failed (min (n + e.answered) count_end) a (cond e.halted 1 0) v x since told_now old past) (sym c.add.ensures.cut)
    (subst (λ (h : ℕ). LaneGoesOn m first failed (min (n + e.answered) count_end) (cut_by e.cause c.args.counts.now.cut) h v x since told_now old past) none
    (subst (λ s. LaneGoesOn m first failed (min (n + e.answered) count_end) (cut_by e.cause c.args.counts.now.cut) (0 + cond e.halted 1 0) v x since s old past) (sym c.serve_connection-end.ensures.since)
    (lane-more m c.args.at.now first faults (g.L.Lane.faults c.args.lane.now) failed n c.args.counts.now.cut 0 e v (view c.args.pass.now) x since told (g.L.Lane.since c.args.lane.now) old then (g.L.Lane.past c.args.lane.now) past so_far le came c.serve_connection-end.ensures.ends.cause c.serve_connection-end.ensures.ends.served
    c.serve_connection-end.ensures.pass.history.is_legal with_it c.serve_connection-end.ensures.keeps_up))))

pub returns-clause-last : goal.returns-clause-last
returns-clause-last g c then came =
    connection-last (record { acts = g.M.ModuleSet.acts; plan = g.M.ModuleSet.plan }) c.args.at.now c.serve_connection-end.result (view c.args.pass.now) (view c.serve_connection-end.new.pass) then (g.L.Lane.past c.args.lane.now) (g.L.Lane.past c.serve_connection-end.new.lane) came c.serve_connection-end.ensures.ends.served
