use Rattle.std.proofs.Common.{◌≡◌, length}
use Rattle.cd_routes.specs.Work.{all_changes}
use Rattle.cd_routes.proofs.running.with_all_changes.Given as goal

abbrev pub invariant-loop-last : goal.invariant-loop-last
invariant-loop-last l = all_changes l.changes l.outcome ≡ all_changes l.fn.changes l.fn.outcome

abbrev pub decreases-loop-last : goal.decreases-loop-last
decreases-loop-last l = length l.changes
