use Rattle.std.proofs.Common.{◌≡◌, false, length, is_some, All}
use Rattle.cd_proxy_cases.proofs.commands.peers_of.Given as goal

abbrev pub invariant-loop-tree : goal.invariant-loop-tree
invariant-loop-tree l = record {
  many : length l.peers ≡ l.tree-index;
  idle : All (λ of_lane. is_some of_lane.current ≡ false) l.peers;
}
