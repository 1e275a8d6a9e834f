use Rattle.std.proofs.Common.{◌≡◌, length, false}
use Rattle.cd_path.specs.Looking.{ends_in_ellipsis}
use Rattle.cd_path.specs.TooDeep.{PutsTooDeep}
use Rattle.cd_path.proofs.too_deep.follow.Given as goal

-- what is too deep from here is too deep in the whole
abbrev pub invariant-loop-left : goal.invariant-loop-left
invariant-loop-left l = record {
  plain : ends_in_ellipsis l.left ≡ false;
  whole : PutsTooDeep l.left l.here → PutsTooDeep l.parts l.tree;
}

abbrev pub decreases-loop-left : goal.decreases-loop-left
decreases-loop-left l = length l.left
