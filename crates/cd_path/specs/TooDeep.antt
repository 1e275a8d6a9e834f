-- PUTs whose parts make more levels than a sound tree may have, for the clauses of private functions.
use Rattle.std.specs.Prelude.{◌≡◌, ℕ, ◌<◌, List, Result, Ok}
use Rattle.cd_text.specs.Steps.{◌▷◌}
use Rattle.cd_tree.specs.Tree.{depth}
use Rattle.cd_tree.specs.declared.limits.TheConstants.{MAX_DEPTH}
use Rattle.cd_tree.specs.declared.tree.Tree.{Tree, out-Tree}
use Rattle.cd_path.specs.Editing.{way_edit, change}
use Rattle.cd_path.specs.declared.fault.EditFault.{EditFault}
use Rattle.cd_path.specs.declared.verb.Verb.TheVariants.{Put}

-- there is a tree, and it nests more levels than this
pub record IsDeeper (levels : ℕ) (made : Result Tree EditFault) : Type 0 where
  pub tree : Tree
  pub is : made ≡ Ok tree
  pub deep : levels < depth tree

-- whatever is put at the parts, the result is too deep
abbrev pub PutsTooDeep : List (List ℕ) → Tree → Type 0
PutsTooDeep parts t = (body : Tree) → IsDeeper MAX_DEPTH (change Put body parts t)

-- a PUT goes on in the value after the part, and what it makes there stands one level deeper in the whole
pub record IsWayInto (part : List ℕ) (t value : Tree) : Type 0 where
  pub around : Tree → Tree
  pub is : (edit_below : Tree → Result Tree EditFault) → way_edit Put edit_below part (out-Tree t) ≡ (edit_below value ▷ λ made. Ok (around made))
  pub deeper : (made : Tree) → depth made < depth (around made)
