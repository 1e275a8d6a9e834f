use Rattle.std.proofs.Common.{◌≡◌, ◌++◌}
use Rattle.cd_tree.specs.Marked.{members_in}
use Rattle.cd_tree.proofs.marking.in_order.Given as goal

abbrev pub invariant-loop-key : goal.invariant-loop-key
invariant-loop-key l = record {
  can_next : (goal.iterator-loop-key).can_next l.key-iterator;
  is_finite : (goal.iterator-loop-key).is_finite l.key-iterator;
  so_far : l.found ++ members_in l.key-iterator ≡ members_in l.fn.entries.entries;
}
