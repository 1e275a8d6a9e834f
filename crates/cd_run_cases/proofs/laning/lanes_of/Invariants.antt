use Rattle.std.proofs.Common.{◌≡◌, false, length, is_some, All}
use Rattle.cd_run_cases.proofs.laning.lanes_of.Given as goal

abbrev pub invariant-loop-tree : goal.invariant-loop-tree
invariant-loop-tree l = record {
  many : length l.lanes ≡ l.tree-index;
  idle : All (λ lane. is_some lane.lane.current ≡ false) l.lanes;
}
