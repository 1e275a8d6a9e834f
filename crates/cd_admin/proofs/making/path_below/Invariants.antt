use Rattle.std.proofs.Common.{◌≡◌, ◌++◌, take}
use Rattle.cd_admin.proofs.making.path_below.Given as goal

abbrev pub invariant-loop-part : goal.invariant-loop-part
invariant-loop-part l = l.made.parts ≡ l.path.parts ++ take l.part-index l.below
