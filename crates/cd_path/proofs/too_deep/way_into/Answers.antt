use Rattle.std.proofs.Common.{ap, ◌∙◌, rules}
use Rattle.cd_tree.specs.declared.tree.Tree.{out-Tree}
use Rattle.cd_tree.specs.declared.tree.Tree.TheVariants.{outs-Items, outs-Object}
use Rattle.cd_path.proofs.Deeper.{object_way, items_way}
use Rattle.cd_path.proofs.too_deep.way_into.Goals as goal

pub returns-in-Object : goal.returns-in-Object
returns-in-Object c =
    object_way c.args.part.now c.args.tree.now c.member_or.result.now c.in-Object.members (ap out-Tree c.in-Object.is ∙ outs-Object c.in-Object.members) c.member_or.ensures

pub returns-in-Ok : goal.returns-in-Ok
returns-in-Ok c =
    items_way c.args.part.now c.args.tree.now c.index-as_slice-at.result c.in-Items.items c.in-Ok.at (ap out-Tree c.in-Items.is ∙ outs-Items c.in-Items.items) (search rules) (search rules) (search rules)
