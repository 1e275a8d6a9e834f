use Rattle.std.proofs.Common.{◌≡◌, map, take}
use Rattle.cd_tree.specs.Spot.{part_text}
use Rattle.cd_tree.proofs.spot.copy_each.Given as goal

abbrev pub invariant-loop-part : goal.invariant-loop-part
invariant-loop-part l = map part_text l.made ≡ map part_text (take l.part-index l.parts)
