use Rattle.std.proofs.Common.{◌≡◌, ◌++◌, take}
use Rattle.cd_path.proofs.elements.append_copies.Given as goal

abbrev pub invariant-loop-item : goal.invariant-loop-item
invariant-loop-item l = l.made ≡ l.initial.made ++ take l.item-index l.items
