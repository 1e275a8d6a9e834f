-- Which paths an edit leaves alone: those that are not its place, above it, below it, or at or below an element behind it.
use Rattle.std.specs.Prelude.{◌≡◌, ℕ, ◌==◌, nat_lt, not, Bool, true, false, ◌&&◌, if◌then◌else◌, List, [], ◌∷◌, Option, Some, None, Ok, IsTrue}
use Rattle.std.specs.Result.{result_unwrap_or}
use Rattle.std.specs.Str.{bytes_eq}
use Rattle.cd_tree.specs.declared.path.Path.{Path}
use Rattle.cd_tree.specs.declared.tree.Member.{Member}
use Rattle.cd_tree.specs.declared.tree.Tree.{Tree, out-Tree}
use Rattle.cd_tree.specs.declared.tree.Tree.TheOpen.{Tree-F}
use Rattle.cd_path.specs.Looking.{child, or_null, look}
use Rattle.cd_path.specs.Position.{position}

-- two positions are the same
abbrev pub is_same : Option ℕ → Option ℕ → Bool
is_same (Some m) (Some n) = m == n
is_same _ _ = false

-- two parts name one place of a list, or one key
abbrev pub names_same : List ℕ → List ℕ → Tree-F Tree Member → Bool
names_same part other (Tree-F.Items items) = is_same (position part) (position other)
names_same part other _ = bytes_eq part other

-- the second position is behind the first
abbrev pub is_behind : Option ℕ → Option ℕ → Bool
is_behind (Some m) (Some n) = nat_lt m n
is_behind _ _ = false

-- the second part names an element of a list behind the one that the first names
abbrev pub names_behind : List ℕ → List ℕ → Tree-F Tree Member → Bool
names_behind part other (Tree-F.Items items) = is_behind (position part) (position other)
names_behind part other _ = false

-- no part is left
abbrev pub is_empty : List (List ℕ) → Bool
is_empty [] = true
is_empty _ = false

-- what a part names, or null
abbrev pub child_or_null : List ℕ → Tree → Tree
child_or_null part t = or_null (result_unwrap_or (child part t) None)

-- the second path parts from the first, and not to an element behind the first path's place
abbrev pub apart : List (List ℕ) → List (List ℕ) → Tree → Bool
apart [] other t = false
apart (part ∷ rest) [] t = false
apart (part ∷ rest) (next ∷ more) t =
    if names_same part next (out-Tree t) then apart rest more (child_or_null part t)
    else not (is_empty rest && names_behind part next (out-Tree t))

-- at each path apart from this one, `look` finds afterwards what it found before
abbrev pub LeavesOthers : Path → Tree → Tree → Type 0
LeavesOthers path t made = (other : Path) (found : Option Tree) → IsTrue (apart path.parts other.parts t) → look t other ≡ Ok found → look made other ≡ Ok found
