use Rattle.std.proofs.Common.{◌+◌, Option, subst, sym, ◌∙◌}
use Rattle.cd_peers.specs.declared.picking.Least.{Least}
use Rattle.cd_peers.specs.Pick.{rank}
use Rattle.cd_peers.specs.Picking.{IsLeast, may}
use Rattle.cd_peers.proofs.PickLemmas.{passed_over}
use Rattle.cd_peers.proofs.picking.least_of.Goals as goal
use Rattle.cd_peers.proofs.picking.least_of.Goals.{then-may, else-may}

-- the next upstream may be picked, or not
pub loop-upstream-preserved : goal.loop-upstream-preserved
loop-upstream-preserved c =
    let state = c.args.state.now in
    let u = c.loop-upstream.upstream in
    elim c.if-may.branch [
      | then-may w ↦
          subst (λ (r : Option Least). IsLeast (rank state.policy state) (may state c.args.any) (u + 1) r) (sym w.found-is)
          (w.lesser-found.ensures (rank state.policy state) (may state c.args.any) (sym c.may.ensures ∙ w.if-may.true) w.rank.ensures c.loop-upstream.invariant)
      | else-may w ↦
          subst (λ (r : Option Least). IsLeast (rank state.policy state) (may state c.args.any) (u + 1) r) (sym w.found-is)
          (passed_over (rank state.policy state) (may state c.args.any) u c.loop-upstream.found (sym c.may.ensures ∙ w.if-may.false) c.loop-upstream.invariant)
    ]
