use Rattle.std.proofs.Common.{◌≡◌, ◌++◌, map, take}
use Rattle.cd_tree.specs.Spot.{part_text}
use Rattle.cd_tree.proofs.spot.add_texts.Given as goal

abbrev pub invariant-loop-part : goal.invariant-loop-part
invariant-loop-part l = l.path ≡ l.initial.path ++ map part_text (take l.part-index l.parts)
