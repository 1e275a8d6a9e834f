-- A member that is found in a sound object is sound.
use Rattle.std.proofs.Common.{◌≡◌, ℕ, suc, List, [], ◌∷◌, Bool, true, false, Option, Some, None, slice_get, refl, subst}
use Rattle.std.specs.Prelude.{IfSome, if◌then◌else◌}
use Rattle.std.specs.Str.{bytes_eq}
use Rattle.cd_tree.specs.Fields.{is_null, unless_null, get}
use Rattle.cd_tree.specs.Tree.{IsSound}
use Rattle.cd_tree.specs.declared.tree.Member.{Member, out-Member}
use Rattle.cd_tree.specs.declared.tree.Tree.{Tree, Object}
use Rattle.cd_tree.proofs.Inside.{value_sound}

present_at : (null : Bool) (t u : Tree) → (if null then None else Some t) ≡ Some u → t ≡ u
present_at true t u e = cc
present_at false t u e = cc

-- where the member stands
record StandsAt (members : List Member) (t : Tree) : Type 0 where
  place : ℕ
  member : Member
  is : slice_get members place ≡ Some member
  value : (out-Member member).value ≡ t

stands_in : (here : Bool) (name : List ℕ) (m : Member) (ms : List Member) (t : Tree) → (get name ms ≡ Some t → StandsAt ms t)
    → (if here then unless_null (out-Member m).value else get name ms) ≡ Some t → StandsAt (m ∷ ms) t
stands_in true name m ms t later e = record { place = 0; member = m; is = refl; value = present_at (is_null (out-Member m).value) (out-Member m).value t e }
stands_in false name m ms t later e = let found = later e in record { place = suc found.place; member = found.member; is = found.is; value = found.value }

stands : (name : List ℕ) (members : List Member) (t : Tree) → get name members ≡ Some t → StandsAt members t
stands name [] t e = absurd (let no : ⊥ = cc in no)
stands name (m ∷ ms) t e = stands_in (bytes_eq (out-Member m).key name) name m ms t (stands name ms t) e

one_sound : (members : List Member) (t : Tree) → IsSound (Object members) → StandsAt members t → IsSound t
one_sound members t sound at = subst IsSound at.value (value_sound members at.place at.member sound at.is)

pub found_sound : (name : List ℕ) (members : List Member) (found : Option Tree) → get name members ≡ found → IsSound (Object members) → IfSome found IsSound
found_sound name members None e sound = tt
found_sound name members (Some t) e sound = one_sound members t sound (stands name members t e)
