use Rattle.std.proofs.Common.{◌≡◌, drop}
use Rattle.cd_life.specs.Changes.{tree_at}
use Rattle.cd_life.proofs.kept.place_of.Given as goal

abbrev pub invariant-loop-place : goal.invariant-loop-place
invariant-loop-place g l = tree_at l.kept l.serial ≡ tree_at (drop l.place l.kept) l.serial
