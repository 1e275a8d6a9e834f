use Rattle.std.proofs.Common.{◌≡◌, take, drop, []}
use Rattle.cd_standard.specs.Loading.{all_distinct}
use Rattle.cd_standard.proofs.judging.check_distinct.Given as goal

abbrev pub invariant-loop-place : goal.invariant-loop-place
invariant-loop-place l = all_distinct [] l.listened ≡ all_distinct (take l.place l.listened) (drop l.place l.listened)
