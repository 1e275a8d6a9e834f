-- What stands in a sound tree at a path is sound.
use Rattle.std.proofs.Common.{◌≡◌, ℕ, zero, suc, List, [], ◌∷◌, length, true, false, cond, Option, Some, None, IfSome, Result, Ok, Err, IfOk, slice_get, Bor, refl, sym, subst}
use Rattle.std.specs.Option.{option_copied}
use Rattle.std.specs.Result.{result_map_both}
use Rattle.std.specs.Str.{bytes_eq}
use Rattle.cd_tree.specs.Tree.{IsSound}
use Rattle.cd_tree.specs.declared.path.Path.{Path}
use Rattle.cd_tree.specs.declared.tree.Member.{Member, out-Member}
use Rattle.cd_tree.specs.declared.tree.Tree.{Tree, Items, out-Tree, roll-Tree, roll-out-Tree}
use Rattle.cd_tree.specs.declared.tree.Tree.TheOpen.{Tree-F}
use Rattle.cd_tree.specs.declared.tree.Tree.TheVariants.{rolls-Items, rolls-Object}
use Rattle.cd_tree.proofs.Inside.{element_sound, value_sound, null_sound}
use Rattle.cd_path.specs.Looking.{member_at, child_layer, child, or_null, walk, look, ends_in_ellipsis}
use Rattle.cd_path.specs.Position.{place}
use Rattle.cd_path.specs.declared.fault.EditFault.{EditFault}
use Rattle.cd_path.specs.declared.fault.EditFault.TheVariants.{EllipsisVerb}
use Rattle.cd_path.proofs.Outcomes.{next_ok, any_ok, unless_ok}

abbrev SoundOrNone : Option Tree → Type 0
SoundOrNone found = IfSome found IsSound

abbrev Finds : Result (Option Tree) EditFault → Type 0
Finds r = IfOk r SoundOrNone

-- a member's value, where each is sound
member_at-sound : (key : List ℕ) (members : List Member) → ((n : ℕ) (m : Member) → slice_get members n ≡ Some m → IsSound (out-Member m).value) → SoundOrNone (member_at key members)
member_at-sound key [] f = tt
member_at-sound key (m ∷ ms) f =
    elim (bytes_eq (out-Member m).key key) as (λ b. SoundOrNone (cond b (Some (out-Member m).value) (member_at key ms)))
    [ true ↦ f zero m refl | false ↦ member_at-sound key ms (λ n k e. f (suc n) k e) ]

slice_get-sound : (items : List Tree) (n : ℕ) (o : Option Tree) → slice_get items n ≡ o → IsSound (Items items) → SoundOrNone o
slice_get-sound items n None e h = tt
slice_get-sound items n (Some t) e h = element_sound items n t h e

child_layer-sound : (part : List ℕ) (x : Tree-F Tree Member) → IsSound (roll-Tree x) → Finds (child_layer part x)
child_layer-sound part (Tree-F.Items items) h =
    next_ok (λ _. Unit {0}) SoundOrNone (place (length items) part) (λ n. Ok (slice_get items n)) (any_ok _) (λ n _. slice_get-sound items n _ refl (subst IsSound (rolls-Items items) h))
child_layer-sound part (Tree-F.Object members) h = member_at-sound part members (λ n m e. value_sound members n m (subst IsSound (rolls-Object members) h) e)
child_layer-sound part _ h = tt

child-sound : (part : List ℕ) (t : Tree) → IsSound t → Finds (child part t)
child-sound part t h = child_layer-sound part (out-Tree t) (subst IsSound (sym (roll-out-Tree t)) h)

or_null-sound : (found : Option Tree) → SoundOrNone found → IsSound (or_null found)
or_null-sound None h = null_sound
or_null-sound (Some t) h = h

walk-sound : (parts : List (List ℕ)) (found : Option Tree) → SoundOrNone found → Finds (walk parts found)
walk-sound [] found h = h
walk-sound (part ∷ rest) found h = next_ok SoundOrNone SoundOrNone (child part (or_null found)) (walk rest) (child-sound part _ (or_null-sound found h)) (λ o k. walk-sound rest o k)

look-sound : (t : Tree) (path : Path) → IsSound t → Finds (look t path)
look-sound t path h = unless_ok SoundOrNone (ends_in_ellipsis path.parts) EllipsisVerb (walk path.parts (Some t)) (walk-sound path.parts (Some t) h)

found_as : (r : Result (Option (Bor Tree)) EditFault) (expected : Result (Option Tree) EditFault) → result_map_both option_copied (λ fault. fault) r ≡ expected → Finds expected → IfOk r (λ found. SoundOrNone (option_copied found))
found_as (Ok found) expected e h = subst Finds (sym e) h
found_as (Err fault) expected e h = tt

-- what `look` lends of a sound tree is sound
pub found_sound : (r : Result (Option (Bor Tree)) EditFault) (t : Tree) (path : Path) → result_map_both option_copied (λ fault. fault) r ≡ look t path → IsSound t → IfOk r (λ found. SoundOrNone (option_copied found))
found_sound r t path e h = found_as r (look t path) e (look-sound t path h)
