use Rattle.std.proofs.Common.{◌≡◌, length, rules}
use Rattle.cd_autosave.proofs.Beginnings.{empty_last}
use Rattle.cd_autosave.proofs.opening.tree_in.Goals as goal

pub returns-then-is_empty-clause-damaged : goal.returns-then-is_empty-clause-damaged
returns-then-is_empty-clause-damaged c = λ is ends tree text.
    let none : length c.args.text.now ≡ 0 = search rules in
    c.no_tree_ends_in_zero.ensures tree text (empty_last c.args.text.now none)
