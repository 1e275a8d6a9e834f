use Rattle.std.proofs.Common.{◌≡◌, false, length, is_some, All}
use Rattle.cd_proxy_cases.proofs.commands.lanes_of.Given as goal

abbrev pub invariant-loop-tree : goal.invariant-loop-tree
invariant-loop-tree l = record {
  many : length l.lanes ≡ l.tree-index;
  idle : All (λ lane. is_some lane.current ≡ false) l.lanes;
}
