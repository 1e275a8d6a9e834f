-- One part of a path, in a list and in an object.
use Rattle.std.proofs.Common.{◌≡◌, ◌≢◌, ℕ, zero, suc, ◌<◌, ◌-◌, nat_lt, List, [], ◌∷◌, ◌++◌, length, get_or, take, set, slice_get, Option, Some, Ok, Err, cond, refl, sym, ap, ◌∙◌, arith}
use Rattle.std.proofs.lemmas.Bool.{lt-ltb}
use Rattle.std.proofs.lemmas.Option.{slice_get-get_or, slice_get_within}
use Rattle.cd_text.specs.Steps.{◌▷◌, some_or}
use Rattle.cd_tree.specs.declared.tree.Member.{Member}
use Rattle.cd_tree.specs.declared.tree.Tree.{Tree, Null, Items, Object}
use Rattle.cd_tree.specs.declared.tree.Tree.TheOpen.{Tree-F}
use Rattle.cd_tree.specs.declared.tree.Tree.TheVariants.{outs-Items, outs-Object}
use Rattle.cd_tree.proofs.Outcomes.{chained}
use Rattle.cd_path.specs.Looking.{member_at, child_layer, child, walk, is_ellipsis, ends_in_ellipsis}
use Rattle.cd_path.specs.Position.{position, place}
use Rattle.cd_path.specs.declared.fault.EditFault.TheVariants.{BadIndex, OutOfBounds}
use Rattle.cd_path.proofs.Outcomes.{place_tells, from_ok}

-- ---- places

-- a position below the bound is the place
pub place_is : (bound n : ℕ) (part : List ℕ) → position part ≡ Some n → n < bound → place bound part ≡ Ok n
place_is bound n part names below =
    ap (λ p. some_or BadIndex p ▷ λ m. cond (nat_lt m bound) (Ok m) (Err OutOfBounds)) names ∙ ap (λ b. cond b (Ok n) (Err OutOfBounds)) (lt-ltb n bound below)

-- the element that a part names
pub record Element (items : List Tree) (part : List ℕ) (found : Option Tree) : Type 0 where
  pub at : ℕ
  pub value : Tree
  pub names : position part ≡ Some at
  pub there : slice_get items at ≡ Some value
  pub is : found ≡ Some value

pub element_found : (items : List Tree) (part : List ℕ) (found : Option Tree) → child_layer part (Tree-F.Items items) ≡ Ok found → Element items part found
element_found items part found e =
    let step = chained (place (length items) part) (λ n. Ok (slice_get items n)) found e in
    let told = from_ok (λ n. (position part ≡ Some n) × (n < length items)) (place (length items) part) step.0 step.1 (place_tells (length items) part) in
    let there = slice_get-get_or items step.0 Null told.1 in
    let same : slice_get items step.0 ≡ found = let q = step.2 in cc in
    record { at = step.0; value = get_or items step.0 Null; names = told.0; there = there; is = sym same ∙ there }

pub element_is : (items : List Tree) (part : List ℕ) (n : ℕ) (value : Tree) → position part ≡ Some n → slice_get items n ≡ Some value → child_layer part (Tree-F.Items items) ≡ Ok (Some value)
element_is items part n value names there =
    ap (λ r. r ▷ λ m. Ok (slice_get items m)) (place_is (length items) n part names (slice_get_within items n value there)) ∙ ap Ok there

pub child-Items : (part : List ℕ) (items : List Tree) → child part (Items items) ≡ child_layer part (Tree-F.Items items)
child-Items part items = ap (child_layer part) (outs-Items items)

pub child-Object : (part : List ℕ) (members : List Member) → child part (Object members) ≡ Ok (member_at part members)
child-Object part members = ap (child_layer part) (outs-Object members)

-- ---- the last part

-- the last of the parts is the last of those after the first
pub last_of_rest : (part next : List ℕ) (rest : List (List ℕ)) → ends_in_ellipsis (part ∷ next ∷ rest) ≡ ends_in_ellipsis (next ∷ rest)
last_of_rest part next rest =
    let one : suc (suc (length rest)) - 1 ≡ suc (length rest) = omega arith in
    let other : suc (length rest) - 1 ≡ length rest = omega arith in
    ap (λ n. is_ellipsis (slice_get (part ∷ next ∷ rest) n)) one ∙ ap (λ n. is_ellipsis (slice_get (next ∷ rest) n)) (sym other)

-- ---- walks

-- where the first part leads to a value, the walk goes on from it
pub walk_into : (t : Tree) (part : List ℕ) (rest : List (List ℕ)) (value found : Option Tree) → child part t ≡ Ok value → walk (part ∷ rest) (Some t) ≡ Ok found → walk rest value ≡ Ok found
walk_into t part rest value found e h = sym (ap (λ r. r ▷ walk rest) e) ∙ h

pub walk_through : (t : Tree) (part : List ℕ) (rest : List (List ℕ)) (value found : Option Tree) → child part t ≡ Ok value → walk rest value ≡ Ok found → walk (part ∷ rest) (Some t) ≡ Ok found
walk_through t part rest value found e h = ap (λ r. r ▷ walk rest) e ∙ h

-- ---- elements of other lists

get-front : (xs ys : List Tree) (m : ℕ) (c : Tree) → slice_get xs m ≡ Some c → slice_get (xs ++ ys) m ≡ Some c
get-front [] ys m c e = cc
get-front (x ∷ xs) ys zero c e = e
get-front (x ∷ xs) ys (suc m) c e = get-front xs ys m c e

get-take : (xs : List Tree) (n m : ℕ) (c : Tree) → m < n → slice_get xs m ≡ Some c → slice_get (take n xs) m ≡ Some c
get-take [] n m c h e = cc
get-take (x ∷ xs) zero m c h e = absurd (omega arith)
get-take (x ∷ xs) (suc n) zero c h e = e
get-take (x ∷ xs) (suc n) (suc m) c h e = get-take xs n m c (omega arith) e

-- elements that are added at the end
pub get_appended : (xs ys : List Tree) (m : ℕ) (c : Tree) → slice_get xs m ≡ Some c → slice_get (xs ++ ys) m ≡ Some c
get_appended xs ys m c e = get-front xs ys m c e

-- elements in front of a place behind which all is other
pub get_in_front : (xs ys : List Tree) (n m : ℕ) (c : Tree) → m < n → slice_get xs m ≡ Some c → slice_get (take n xs ++ ys) m ≡ Some c
get_in_front xs ys n m c h e = get-front (take n xs) ys m c (get-take xs n m c h e)

-- elements but the one that is set
pub get_set_other : (xs : List Tree) (new : Tree) (n m : ℕ) (c : Tree) → m ≢ n → slice_get xs m ≡ Some c → slice_get (set xs n new) m ≡ Some c
get_set_other [] new n m c d e = cc
get_set_other (x ∷ xs) new zero zero c d e = absurd (d refl)
get_set_other (x ∷ xs) new zero (suc m) c d e = e
get_set_other (x ∷ xs) new (suc n) zero c d e = e
get_set_other (x ∷ xs) new (suc n) (suc m) c d e = get_set_other xs new n m c (λ s. d (ap suc s)) e

-- the one that is set
pub get_set_same : (xs : List Tree) (new : Tree) (n : ℕ) → n < length xs → slice_get (set xs n new) n ≡ Some new
get_set_same [] new n h = absurd (omega arith)
get_set_same (x ∷ xs) new zero h = refl
get_set_same (x ∷ xs) new (suc n) h = get_set_same xs new n (omega arith)
