use Rattle.std.proofs.Common.{◌≡◌, false, is_some, All}
use Rattle.cd_link_cases.proofs.running.lanes_of.Given as goal

abbrev pub invariant-loop : goal.invariant-loop
invariant-loop g l = All (λ lane. is_some lane.held ≡ false) l.lanes
