use Rattle.std.specs.Prelude.{IsTrue}
use Rattle.cd_tree.specs.Tree.{is_ordered}
use Rattle.cd_path.proofs.Ordered.{change-ordered}
use Rattle.cd_path.proofs.Outcomes.{given}
use Rattle.cd_path.proofs.editing.Task.ordered.Goals as goal

pub returns-clause-ordered : goal.returns-clause-ordered
returns-clause-ordered c =
    given (λ made. IsTrue (is_ordered made)) c.change.result _ c.change.ensures
    (change-ordered c.args.self.now.verb c.args.self.now.body.now c.args.parts.now c.args.tree.now c.requires.body_ordered c.requires.tree_ordered)
