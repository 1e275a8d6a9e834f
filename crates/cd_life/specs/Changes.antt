-- What is kept of the configurations that were published.
use Rattle.std.specs.Prelude.{◌≡◌, ℕ, ◌==◌, Bool, ◌&&◌, slice_get, cond, List, [], ◌∷◌, Option, Some, None}
use Rattle.std.specs.Arc.{arc_value}
use Rattle.cd_tree.specs.declared.tree.Tree.{Tree}
use Rattle.cd_legal.specs.State.{Conf}
use Rattle.cd_life.specs.declared.board.Board.{Board}
use Rattle.cd_life.specs.declared.board.Kept.{Kept}

abbrev pub tree_of : {A B : Type 0} {g : _} → Kept A B g → Tree
tree_of k = (arc_value k.loaded).tree

-- the tree of the first of these with the serial
abbrev pub tree_at : {A B : Type 0} {g : _} → List (Kept A B g) → ℕ → Option Tree
tree_at [] n = None
tree_at (k ∷ ks) n = cond (k.serial == n) (Some (tree_of k)) (tree_at ks n)

-- what runs where a tree was published, or none
abbrev pub conf_kept : Option Tree → Conf
conf_kept None = Conf.Opening
conf_kept (Some tree) = Conf.Of tree

-- what runs under a serial: nothing any more under that of the halt, nothing yet under 0, and else what was published with it
abbrev pub conf_there : Bool → Option Tree → ℕ → Conf
conf_there halted kept n = cond halted Conf.Halted (cond (n == 0) Conf.Opening (conf_kept kept))

-- what the board has for a serial
abbrev pub conf_here : {A F B : Type 0} {g : _} → Board A F B g → ℕ → Conf
conf_here b n = conf_there (b.desk.halted && (n == b.desk.serial)) (tree_at b.kept.items n) n

-- a place is that of the first one with the serial; none where no one has it
abbrev pub IsPlaceOf : {A B : Type 0} {g : _} → List (Kept A B g) → ℕ → Option ℕ → Type 0
IsPlaceOf ks n None = tree_at ks n ≡ None
IsPlaceOf {A} {B} {g} ks n (Some place) = (k : Kept A B g) × (slice_get ks place ≡ Some k) × (k.serial ≡ n) × (tree_at ks n ≡ Some (tree_of k))
