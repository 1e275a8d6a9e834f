use Rattle.std.proofs.Common.{ℕ, ◌+◌, ◌*◌, ◌≤◌, length}
use Rattle.cd_tree.specs.Marked.{members_in}
use Rattle.cd_tree.proofs.Marks.{ItemsSoFar, MembersSoFar}
use Rattle.cd_tree.proofs.marking.+marked.Given as goal

abbrev pub decreases-value_marked : goal.decreases-value_marked
decreases-value_marked l = 2 * l.depth

abbrev pub decreases-items_marked : goal.decreases-items_marked
decreases-items_marked l = 2 * l.depth + 1

abbrev pub decreases-members_marked : goal.decreases-members_marked
decreases-members_marked l = 2 * l.depth + 1

abbrev pub invariant-items_marked-loop-alloc : goal.invariant-items_marked-loop-alloc
invariant-items_marked-loop-alloc l =
    (turns : ℕ) × (length l.reader ≤ turns) × ItemsSoFar l.depth turns l.initial.reader l.reader l.found.items × (length l.reader ≤ length l.initial.reader)

abbrev pub decreases-items_marked-loop-alloc : goal.decreases-items_marked-loop-alloc
decreases-items_marked-loop-alloc l = length l.reader

abbrev pub invariant-members_marked-loop-found : goal.invariant-members_marked-loop-found
invariant-members_marked-loop-found l =
    (turns : ℕ) × (length l.reader ≤ turns) × MembersSoFar l.depth turns l.initial.reader l.reader (members_in l.found.entries) × (length l.reader ≤ length l.initial.reader)

abbrev pub decreases-members_marked-loop-found : goal.decreases-members_marked-loop-found
decreases-members_marked-loop-found l = length l.reader
