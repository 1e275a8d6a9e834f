use Rattle.std.proofs.Common.{length}
use Rattle.cd_cases.proofs.trees.+needed_below.Given as goal

abbrev pub decreases-needed_below : goal.decreases-needed_below
decreases-needed_below l = length l.parts.now
