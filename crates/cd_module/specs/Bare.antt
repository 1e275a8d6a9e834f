-- Trees without ids: a reader that names no member `@id` sees none.
use Rattle.std.specs.Prelude.{◌≡◌, if◌then◌else◌, List, [], ◌∷◌}
use Rattle.cd_tree.specs.declared.path.Path.{Path}
use Rattle.cd_tree.specs.declared.tree.Member.{Member, roll-Member}
use Rattle.cd_tree.specs.declared.tree.Tree.{Tree, roll-Tree, fold-Tree}
use Rattle.cd_tree.specs.declared.tree.Tree.TheOpen.{Tree-F}
use Rattle.cd_module.specs.Settings.{Reader, is_no_id}

-- the members but for ids
abbrev pub no_ids : List Member → List Member
no_ids [] = []
no_ids (m ∷ ms) = if is_no_id m then (m ∷ no_ids ms) else no_ids ms

-- one level: an object loses its id
abbrev pub bare_step : Tree-F Tree Member → Tree-F Tree Member
bare_step Tree-F.Null = Tree-F.Null
bare_step (Tree-F.Bool b) = Tree-F.Bool b
bare_step (Tree-F.Num n) = Tree-F.Num n
bare_step (Tree-F.Text t) = Tree-F.Text t
bare_step (Tree-F.Items items) = Tree-F.Items items
bare_step (Tree-F.Object members) = Tree-F.Object (no_ids members)

-- the tree without the ids of its objects
abbrev pub bare : Tree → Tree
bare = fold-Tree Tree Member (λ x. roll-Tree (bare_step x)) (λ member. roll-Member (record { key = member.key; value = member.value }))

-- a reader to which ids make no difference: the same settings, or the same first fault
pub record SeesNoIds {X : Type 0} (r : Reader X) : Type 0 where
  pub same : (t : Tree) (at : Path) → r (bare t) at ≡ r t at
