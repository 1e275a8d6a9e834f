-- Null has no ids, and says nothing of the admin API.
use Rattle.std.proofs.Common.{◌≡◌, List, [], true, refl, sym, ap, ◌∙◌, subst, rules}
use Rattle.std.specs.Prelude.{None, codes}
use Rattle.std.specs.Result.{IsOk}
use Rattle.cd_tree.specs.Fields.{is_null, null_layer}
use Rattle.cd_tree.specs.declared.tree.Member.{Member}
use Rattle.cd_tree.specs.declared.tree.Tree.{Tree, out-Tree, roll-Tree, roll-out-Tree, the_lemmas}
use Rattle.cd_tree.specs.declared.tree.Tree.TheOpen.{Tree-F}
use Rattle.cd_ids.specs.Ids.{id_fault}
use Rattle.cd_module.specs.Settings.{optional}
use Rattle.cd_admin.specs.Admin.{admin, admin_in, members_layer}

null_rolled : (x : Tree-F Tree Member) → null_layer x ≡ true → id_fault (roll-Tree x) ≡ None
null_rolled Tree-F.Null is = search (rules, the_lemmas)
null_rolled (Tree-F.Bool b) is = cc
null_rolled (Tree-F.Num n) is = cc
null_rolled (Tree-F.Text text) is = cc
null_rolled (Tree-F.Items items) is = cc
null_rolled (Tree-F.Object members) is = cc

pub null_has_no_ids : (t : Tree) → is_null t ≡ true → id_fault t ≡ None
null_has_no_ids t is = ap id_fault (sym (roll-out-Tree t)) ∙ null_rolled (out-Tree t) is

no_members : (x : Tree-F Tree Member) → null_layer x ≡ true → members_layer x ≡ []
no_members Tree-F.Null is = refl
no_members (Tree-F.Bool b) is = cc
no_members (Tree-F.Num n) is = cc
no_members (Tree-F.Text text) is = cc
no_members (Tree-F.Items items) is = cc
no_members (Tree-F.Object members) is = cc

pub null_says_nothing : (t : Tree) → is_null t ≡ true → IsOk (admin_in t)
unfolding admin_in optional
null_says_nothing t is =
    subst (λ (ms : List Member). IsOk (optional admin (codes "admin") ms (record { parts = [] }))) (sym (no_members (out-Tree t) is)) refl
