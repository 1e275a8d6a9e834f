-- A value inside a sound tree is sound.
use Rattle.std.proofs.Common.{◌≡◌, ℕ, zero, suc, ◌≤◌, List, [], ◌∷◌, ◌++◌, length, map, Bool, true, false, ◌&&◌, nat_le, Some, slice_get, refl, sym, ap, ◌∙◌, subst, arith, append_assoc, append-nil, length-append}
use Rattle.std.specs.List.{list_all}
use Rattle.std.proofs.lemmas.Bool.{and_parts, leb-true, le-leb}
use Rattle.json.specs.Token.{Token, key, begin_array, end_array, begin_object, end_object, null}
use Rattle.json.specs.Print.{print, print_from, ends}
use Rattle.cd_text.specs.Steps.{joined}
use Rattle.cd_tree.specs.Tree.{largest, depth, member_depth, tokens, member_tokens, text, is_ordered, ordered_member, keys_rise, IsSound}
use Rattle.cd_tree.specs.declared.limits.TheConstants.{MAX_DEPTH, MAX_TEXT_BYTES}
use Rattle.cd_tree.specs.declared.tree.Member.{Member, out-Member}
use Rattle.cd_tree.specs.declared.tree.Tree.{Tree, Null, Items, Object}
use Rattle.cd_tree.proofs.Trees.{depth-Items, depth-Object, tokens-Items, tokens-Object, list_ordered, object_ordered, value_ordered, null_ordered, depth-Null, tokens-Null}

-- ---- the text of some of the tokens is no longer

pub length-print-front : (b : Bool) (xs ys : List Token) → length (print_from b xs) ≤ length (print_from b (xs ++ ys))
unfolding print_from
length-print-front b [] ys = omega arith
length-print-front b (x ∷ xs) ys = simp length-append (omega (arith, length-print-front (ends x) xs ys))

pub length-print-back : (b : Bool) (xs ys : List Token) → length (print_from false ys) ≤ length (print_from b (xs ++ ys))
unfolding print_from
length-print-back b [] [] = omega arith
length-print-back b [] (y ∷ ys) = simp length-append (omega arith)
length-print-back b (x ∷ xs) ys = simp length-append (omega (arith, length-print-back (ends x) xs ys))

-- the first tokens stand in a row among the second
pub record StandsIn (xs ys : List Token) : Type 0 where
  pub before : List Token
  pub behind : List Token
  pub whole : ys ≡ before ++ (xs ++ behind)

pub length-print-StandsIn : (xs ys : List Token) → StandsIn xs ys → length (print xs) ≤ length (print ys)
length-print-StandsIn xs ys s =
    subst (λ (zs : List Token). length (print xs) ≤ length (print zs)) (sym s.whole) (omega (arith, length-print-front false xs s.behind, length-print-back false s.before (xs ++ s.behind)))

stands_later : (first : List Token) (xs ys : List Token) → StandsIn xs ys → StandsIn xs (first ++ ys)
stands_later first xs ys s = record { before = first ++ s.before; behind = s.behind; whole = ap (λ r. first ++ r) s.whole ∙ sym (append_assoc first s.before _) }

stands_sooner : (last : List Token) (xs ys : List Token) → StandsIn xs ys → StandsIn xs (ys ++ last)
stands_sooner last xs ys s = record {
  before = s.before;
  behind = s.behind ++ last;
  whole = ap (λ r. r ++ last) s.whole ∙ append_assoc s.before _ last ∙ ap (λ r. s.before ++ r) (append_assoc xs s.behind last);
}

-- the tokens of one stand among those of all
pub one_stands : {X : Type 0} (f : X → List Token) (xs : List X) (n : ℕ) (x : X) → slice_get xs n ≡ Some x → StandsIn (f x) (joined (map f xs))
one_stands f [] n x e = cc
one_stands f (y ∷ ys) zero x e = let same : y ≡ x = cc in record { before = []; behind = joined (map f ys); whole = ap (λ z. f z ++ joined (map f ys)) same }
one_stands f (y ∷ ys) (suc n) x e = stands_later (f y) (f x) _ (one_stands f ys n x e)

-- one is no deeper than the deepest
pub one_depth : {X : Type 0} (f : X → ℕ) (xs : List X) (n : ℕ) (x : X) → slice_get xs n ≡ Some x → f x ≤ largest (map f xs)
one_depth f [] n x e = cc
one_depth f (y ∷ ys) zero x e = let same : y ≡ x = cc in omega (arith, ap f same)
one_depth f (y ∷ ys) (suc n) x e = omega (arith, one_depth f ys n x e)

-- where all pass, one does
pub one_passes : {X : Type 0} (p : X → Bool) (xs : List X) (n : ℕ) (x : X) → list_all p xs ≡ true → slice_get xs n ≡ Some x → p x ≡ true
one_passes p [] n x h e = cc
one_passes p (y ∷ ys) zero x h e = let same : y ≡ x = cc in sym (ap p same) ∙ (and_parts (p y) _ h).0
one_passes p (y ∷ ys) (suc n) x h e = one_passes p ys n x (and_parts (p y) _ h).1 e

-- ---- soundness

-- what soundness says, apart
pub record Parts (t : Tree) : Type 0 where
  pub ordered : is_ordered t ≡ true
  pub shallow : depth t ≤ MAX_DEPTH
  pub short : length (text t) ≤ MAX_TEXT_BYTES

pub parts_of : (t : Tree) → IsSound t → Parts t
parts_of t h =
    let a = and_parts (is_ordered t) _ h in
    let b = and_parts (nat_le (depth t) MAX_DEPTH) _ a.1 in
    record { ordered = a.0; shallow = leb-true _ _ b.0; short = leb-true _ _ b.1 }

-- two tests that pass
pub both : (x y : Bool) → x ≡ true → y ≡ true → (x && y) ≡ true
both true y p q = q
both false y p q = cc

pub from_parts : (t : Tree) → Parts t → IsSound t
from_parts t p = both _ _ p.ordered (both _ _ (le-leb _ _ p.shallow) (le-leb _ _ p.short))

-- an element of a sound list is sound
pub element_sound : (items : List Tree) (n : ℕ) (t : Tree) → IsSound (Items items) → slice_get items n ≡ Some t → IsSound t
element_sound items n t h e =
    let p = parts_of (Items items) h in
    let whole : StandsIn (tokens t) (tokens (Items items)) =
    subst (StandsIn (tokens t)) (sym (tokens-Items items)) (stands_later (begin_array ∷ []) (tokens t) _ (stands_sooner (end_array ∷ []) (tokens t) _ (one_stands tokens items n t e))) in
    from_parts t (record {
      ordered = one_passes is_ordered items n t (sym (list_ordered items) ∙ p.ordered) e;
      shallow = omega (arith, p.shallow, depth-Items items, one_depth depth items n t e);
      short = omega (arith, p.short, length-print-StandsIn (tokens t) (tokens (Items items)) whole);
    })

-- a member's value in a sound object is sound
pub value_sound : (members : List Member) (n : ℕ) (m : Member) → IsSound (Object members) → slice_get members n ≡ Some m → IsSound (out-Member m).value
value_sound members n m h e =
    let p = parts_of (Object members) h in
    let v = (out-Member m).value in
    let whole : StandsIn (member_tokens m) (tokens (Object members)) =
    subst (StandsIn (member_tokens m)) (sym (tokens-Object members)) (stands_later (begin_object ∷ []) (member_tokens m) _ (stands_sooner (end_object ∷ []) (member_tokens m) _ (one_stands member_tokens members n m e))) in
    let value : StandsIn (tokens v) (member_tokens m) = record { before = key (out-Member m).key ∷ []; behind = []; whole = ap (λ r. key (out-Member m).key ∷ r) (sym (append-nil (tokens v))) } in
    from_parts v (record {
      ordered = one_passes value_ordered members n m (and_parts (keys_rise (map ordered_member members)) _ (sym (object_ordered members) ∙ p.ordered)).1 e;
      shallow = omega (arith, p.shallow, depth-Object members, one_depth member_depth members n m e);
      short = omega (arith, p.short, length-print-StandsIn (member_tokens m) _ whole, length-print-StandsIn (tokens v) (member_tokens m) value);
    })

null_length : length (print (null ∷ [])) ≡ 4
unfolding print_from
null_length = refl

-- null is sound
pub null_sound : IsSound Null
null_sound = from_parts Null (record { ordered = null_ordered; shallow = omega (arith, depth-Null); short = omega (arith, ap (λ ts. length (print ts)) tokens-Null, null_length) })
