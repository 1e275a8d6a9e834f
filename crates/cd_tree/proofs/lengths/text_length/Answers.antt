use Rattle.std.proofs.Common.{ap, sym, ◌∙◌, min, ◌^◌, ◌-◌}
use Rattle.cd_tree.proofs.TextLengths.{text-length}
use Rattle.cd_tree.proofs.lengths.text_length.Goals as goal

pub returns : goal.returns
returns c = c.tree_length.ensures ∙ ap (λ n. min n (2 ^ 64 - 1)) (sym (text-length c.args.tree.now))
