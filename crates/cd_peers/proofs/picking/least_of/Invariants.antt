use Rattle.cd_peers.specs.Pick.{rank}
use Rattle.cd_peers.specs.Picking.{IsLeast, may}
use Rattle.cd_peers.proofs.picking.least_of.Given as goal

-- of the upstreams so far
abbrev pub invariant-loop-upstream : goal.invariant-loop-upstream
invariant-loop-upstream l = IsLeast (rank l.state.policy l.state) (may l.state l.any) l.upstream l.found
