use Rattle.std.proofs.Common.{rules}
use Rattle.cd_tree.specs.declared.tree.Tree.{the_lemmas}
use Rattle.cd_module.specs.Settings.{optional}
use Rattle.cd_admin.specs.Admin.{admin_in}
use Rattle.cd_admin.proofs.admin.admin_in.Goals as goal

pub returns-in_default : goal.returns-in_default
unfolding admin_in optional
returns-in_default c = search (rules, the_lemmas)
