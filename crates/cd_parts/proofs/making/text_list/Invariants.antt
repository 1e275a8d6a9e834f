use Rattle.std.proofs.Common.{◌≡◌, map, take}
use Rattle.cd_tree.specs.declared.tree.Tree as tree
use Rattle.cd_parts.proofs.making.text_list.Given as goal

abbrev pub invariant-loop-text : goal.invariant-loop-text
invariant-loop-text l = l.items ≡ map (λ t. tree.Text t) (take l.text-index l.texts)
