use Rattle.cd_tree.specs.declared.tree.Tree.{Null}
use Rattle.cd_path.proofs.Kept.{change_leaves}
use Rattle.cd_path.proofs.editing.edit.Goals as goal

pub returns-in-Some-clause-others : goal.returns-in-Some-clause-others
returns-in-Some-clause-others c =
    change_leaves c.limited.result c.args.tree.now c.args.verb c.args.path.now c.as_slice-parts.result.now c.in-Some.body.now c.as_slice-parts.ensures c.limited.ensures.exact

pub returns-in-None-clause-others : goal.returns-in-None-clause-others
returns-in-None-clause-others c =
    change_leaves c.limited-in-None.result c.args.tree.now c.args.verb c.args.path.now c.as_slice-parts.result.now Null c.as_slice-parts.ensures c.limited-in-None.ensures.exact
