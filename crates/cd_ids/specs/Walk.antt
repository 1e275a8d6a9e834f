-- Part of the main theorem.
-- The walk over a tree that looks at each `@id`.
use Rattle.std.specs.Prelude.{ℕ, suc, Bool, if◌then◌else◌, List, [], ◌∷◌, ◌++◌, codes, decimal}
use Rattle.std.specs.Str.{bytes_eq}
use Rattle.cd_tree.specs.Path.{◌▸◌}
use Rattle.cd_tree.specs.Tree.{number_text}
use Rattle.cd_tree.specs.declared.path.Path.{Path}
use Rattle.cd_tree.specs.declared.tree.Member.{Member, out-Member}
use Rattle.cd_tree.specs.declared.tree.Tree.{Tree, fold-Tree}
use Rattle.cd_tree.specs.declared.tree.Tree.TheOpen.{Tree-F}

-- what a value says as an `@id`: an id, nothing, or something that is no id
pub data Claim : Type 0 where
  id : List ℕ → Claim
  nothing : Claim
  unfit : Claim

-- what the walk meets: an id with the path of its object, or the path of an `@id` that is no id
pub data Mark : Type 0 where
  named : List ℕ → Path → Mark
  wrong : Path → Mark

-- a value as the walk sees it: what it says as an `@id`, and what the walk meets in it when it stands at a path
pub record Walk : Type 0 where
  pub claim : Claim
  pub inside : Path → List Mark

-- the name of the member that holds the id of its object
abbrev pub id_key : List ℕ
id_key = codes "@id"

abbrev pub is_id_key : List ℕ → Bool
is_id_key key = bytes_eq key id_key

-- what the walk meets at an object whose `@id` says this
abbrev pub claimed : Claim → Path → List Mark
claimed (id name) at = named name at ∷ []
claimed nothing at = []
claimed unfit at = wrong (at ▸ id_key) ∷ []

-- the object's own id, which is absent where no member is its `@id`
abbrev pub own : List (List ℕ × Walk) → Path → List Mark
own [] at = []
own (m ∷ ms) at = if is_id_key m.0 then claimed m.1.claim at else own ms at

-- what is in the members, in their order, but for the `@id`
abbrev pub in_members : List (List ℕ × Walk) → Path → List Mark
in_members [] at = []
in_members (m ∷ ms) at = (if is_id_key m.0 then [] else m.1.inside (at ▸ m.0)) ++ in_members ms at

-- what is in the elements from this place on, in their order
abbrev pub in_elements : ℕ → List Walk → Path → List Mark
in_elements place [] at = []
in_elements place (w ∷ ws) at = w.inside (at ▸ decimal place) ++ in_elements (suc place) ws at

-- one level: a text and the decimal text of a number are ids, null is nothing; an object comes before its members
abbrev pub walk_step : Tree-F Walk (List ℕ × Walk) → Walk
walk_step Tree-F.Null = record { claim = nothing; inside = λ at. [] }
walk_step (Tree-F.Bool b) = record { claim = unfit; inside = λ at. [] }
walk_step (Tree-F.Num n) = record { claim = id (number_text n); inside = λ at. [] }
walk_step (Tree-F.Text t) = record { claim = id t; inside = λ at. [] }
walk_step (Tree-F.Items all) = record { claim = unfit; inside = in_elements 0 all }
walk_step (Tree-F.Object all) = record { claim = unfit; inside = λ at. own all at ++ in_members all at }

abbrev pub walk : Tree → Walk
walk = fold-Tree Walk (List ℕ × Walk) walk_step (λ member. (member.key, member.value))

-- a member's key, and its value as the walk sees it
abbrev pub walk_member : Member → List ℕ × Walk
walk_member member = ((out-Member member).key, walk (out-Member member).value)

-- what the walk meets in a tree, in its order
abbrev pub marks : Tree → List Mark
marks t = (walk t).inside (record { parts = [] })
