-- A change keeps keys rising and numbers in range.
use Rattle.std.proofs.Common.{◌≡◌, ℕ, List, [], ◌∷◌, ◌++◌, Option, Some, None, IfSome, Result, Ok, IfOk, Bool, true, false, cond, ◌&&◌, map, filter, refl, subst, zero, suc, length, take, drop, get_or, set, unwrap_or, sym, ap, ap₂, ◌∙◌, nat_cmp}
use Rattle.std.proofs.lemmas.Bool.{and_parts}
use Rattle.std.proofs.lemmas.Cmp.{nat_list_cmp_total}
use Rattle.std.proofs.lemmas.List.Folds.{list_all-append, list_all-map}
use Rattle.std.specs.Cmp.Lexicographic.{slice_cmp}
use Rattle.std.specs.Ordering.{is_lt, is_gt}
use Rattle.std.specs.List.{list_all}
use Rattle.std.specs.Str.{bytes_eq}
use Rattle.cd_text.specs.Steps.{◌▷◌}
use Rattle.cd_tree.specs.Fields.{is_null, unless_null}
use Rattle.cd_tree.specs.Tree.{is_ordered, is_below, keys_rise, ordered_member}
use Rattle.cd_tree.specs.declared.tree.Member.{Member, out-Member}
use Rattle.cd_tree.specs.declared.tree.Tree.{Tree, Null, Items, Object, out-Tree}
use Rattle.cd_tree.specs.declared.tree.Tree.TheOpen.{Tree-F}
use Rattle.cd_tree.proofs.Inside.{both}
use Rattle.cd_tree.proofs.Trees.{value_ordered, layer_ordered, list_ordered, object_ordered, is_ordered-out, null_ordered, empty_object_ordered}
use Rattle.cd_path.specs.declared.fault.EditFault.{EditFault}
use Rattle.cd_path.specs.Looking.{member_at, or_null, ellipsis}
use Rattle.cd_path.specs.Members.{is_before, is_after, with_member}
use Rattle.cd_path.specs.Position.{place}
use Rattle.cd_path.specs.Editing.{posted, key_edit, bound, position_edit, last_edit, all_posted, ellipsis_edit, entered, way_edit, change}
use Rattle.cd_path.specs.declared.verb.Verb.{Verb}
use Rattle.cd_path.specs.declared.verb.Verb.TheVariants.{Post, Put, Patch, Delete}
use Rattle.cd_path.proofs.Keys.{key_of, less, greater, turned, member_with, keyed, valued}
use Rattle.cd_path.proofs.Outcomes.{next_ok, any_ok, either_ok}

-- ---- the order of keys

below_trans : (a b c : List ℕ) → is_below a b ≡ true → is_below b c ≡ true → is_below a c ≡ true
below_trans a b c p q = ap is_lt (nat_list_cmp_total.trans a b c (less _ p) (less _ q))

above_below : (a b : List ℕ) → is_gt (slice_cmp nat_cmp a b) ≡ true → is_below b a ≡ true
above_below a b p = ap is_lt (turned a b (greater _ p))

-- ---- filters and lists

kept : (p q : Member → Bool) (m : Member) (rest : List Member) (b : Bool) → p m ≡ true → list_all p rest ≡ true → list_all p (cond b (m ∷ rest) rest) ≡ true
kept p q m rest true here later = both _ _ here later
kept p q m rest false here later = later

all-filter : (p q : Member → Bool) (ms : List Member) → list_all p ms ≡ true → list_all p (filter q ms) ≡ true
all-filter p q [] h = refl
all-filter p q (m ∷ ms) h = let s = and_parts _ _ h in kept p q m (filter q ms) (q m) s.0 (all-filter p q ms s.1)

passed : (q : Member → Bool) (m : Member) (rest : List Member) (b : Bool) → q m ≡ b → list_all q rest ≡ true → list_all q (cond b (m ∷ rest) rest) ≡ true
passed q m rest true e later = both _ _ e later
passed q m rest false e later = later

-- what a filter keeps passes its test
filter-passes : (q : Member → Bool) (ms : List Member) → list_all q (filter q ms) ≡ true
filter-passes q [] = refl
filter-passes q (m ∷ ms) = passed q m (filter q ms) (q m) refl (filter-passes q ms)

all-weaker : (p q : Member → Bool) (ms : List Member) → ((m : Member) → p m ≡ true → q m ≡ true) → list_all p ms ≡ true → list_all q ms ≡ true
all-weaker p q [] f h = refl
all-weaker p q (m ∷ ms) f h = let s = and_parts _ _ h in both _ _ (f m s.0) (all-weaker p q ms f s.1)

-- ---- rising keys

abbrev rises : List Member → Bool
rises [] = true
rises (m ∷ ms) = list_all (λ later. is_below (key_of m) (key_of later)) ms && rises ms

keys_rise-members : (ms : List Member) → keys_rise (map ordered_member ms) ≡ rises ms
keys_rise-members [] = refl
keys_rise-members (m ∷ ms) = ap₂ (λ x y. x && y) (list_all-map _ ordered_member ms) (keys_rise-members ms)

rises_kept : (m : Member) (rest : List Member) (b : Bool) → list_all (λ later. is_below (key_of m) (key_of later)) rest ≡ true → rises rest ≡ true → rises (cond b (m ∷ rest) rest) ≡ true
rises_kept m rest true here later = both _ _ here later
rises_kept m rest false here later = later

rises-filter : (q : Member → Bool) (ms : List Member) → rises ms ≡ true → rises (filter q ms) ≡ true
rises-filter q [] h = refl
rises-filter q (m ∷ ms) h =
    let s = and_parts _ _ h in
    rises_kept m (filter q ms) (q m) (all-filter _ q ms s.0) (rises-filter q ms s.1)

-- keys that are below all those of the second list
rises-append : (low : Member → Bool) (xs ys : List Member) → rises xs ≡ true → rises ys ≡ true → list_all low xs ≡ true
    → ((x : Member) → low x ≡ true → list_all (λ y. is_below (key_of x) (key_of y)) ys ≡ true) → rises (xs ++ ys) ≡ true
rises-append low [] ys p q l f = q
rises-append low (x ∷ xs) ys p q l f =
    let s = and_parts _ _ p in
    let t = and_parts _ _ l in
    both _ _ (list_all-append (λ y. is_below (key_of x) (key_of y)) xs ys ∙ both _ _ s.0 (f x t.0)) (rises-append low xs ys s.1 q t.1 f)

-- what stands after a key is above it
after_above : (key : List ℕ) (ms : List Member) → list_all (λ y. is_below key (key_of y)) (filter (is_after key) ms) ≡ true
after_above key ms = all-weaker (is_after key) (λ y. is_below key (key_of y)) _ (λ y h. above_below (key_of y) key h) (filter-passes (is_after key) ms)

before_after : (key : List ℕ) (ms : List Member) (x : Member) → is_before key x ≡ true → list_all (λ y. is_below (key_of x) (key_of y)) (filter (is_after key) ms) ≡ true
before_after key ms x h = all-weaker (λ y. is_below key (key_of y)) (λ y. is_below (key_of x) (key_of y)) _ (λ y k. below_trans (key_of x) key (key_of y) h k) (after_above key ms)

with_member-rises : (key : List ℕ) (value : Option Tree) (ms : List Member) → rises ms ≡ true → rises (with_member key value ms) ≡ true
with_member-rises key None ms h =
    rises-append (is_before key) (filter (is_before key) ms) (filter (is_after key) ms) (rises-filter (is_before key) ms h) (rises-filter (is_after key) ms h)
    (filter-passes (is_before key) ms) (before_after key ms)
with_member-rises key (Some t) ms h =
    let m = member_with key t in
    let e : key ≡ key_of m = sym (keyed key t) in
    rises-append (is_before key) (filter (is_before key) ms) (m ∷ filter (is_after key) ms) (rises-filter (is_before key) ms h)
    (both _ _ (subst (λ (k : List ℕ). list_all (λ y. is_below k (key_of y)) (filter (is_after key) ms) ≡ true) e (after_above key ms)) (rises-filter (is_after key) ms h))
    (filter-passes (is_before key) ms)
    (λ x l. both _ _ (subst (λ (k : List ℕ). is_below (key_of x) k ≡ true) e l) (before_after key ms x l))

-- ---- objects

abbrev IsOrdered : Tree → Type 0
IsOrdered t = is_ordered t ≡ true

abbrev ValueOrdered : Option Tree → Type 0
ValueOrdered value = IfSome value IsOrdered

or_null-ordered : (value : Option Tree) → ValueOrdered value → IsOrdered (or_null value)
or_null-ordered None h = null_ordered
or_null-ordered (Some t) h = h

member_at-ordered : (key : List ℕ) (ms : List Member) → list_all value_ordered ms ≡ true → ValueOrdered (member_at key ms)
member_at-ordered key [] h = tt
member_at-ordered key (m ∷ ms) h =
    let s = and_parts _ _ h in
    elim (bytes_eq (key_of m) key) as (λ b. ValueOrdered (cond b (Some (out-Member m).value) (member_at key ms))) [ true ↦ s.0 | false ↦ member_at-ordered key ms s.1 ]

with_member-values : (key : List ℕ) (value : Option Tree) (ms : List Member) → list_all value_ordered ms ≡ true → ValueOrdered value → list_all value_ordered (with_member key value ms) ≡ true
with_member-values key None ms h v =
    list_all-append value_ordered (filter (is_before key) ms) _ ∙ both _ _ (all-filter value_ordered (is_before key) ms h) (all-filter value_ordered (is_after key) ms h)
with_member-values key (Some t) ms h v =
    list_all-append value_ordered (filter (is_before key) ms) _
    ∙ both _ _ (all-filter value_ordered (is_before key) ms h) (both _ _ (subst IsOrdered (sym (valued key t)) v) (all-filter value_ordered (is_after key) ms h))

object-ordered : (key : List ℕ) (value : Option Tree) (ms : List Member) → layer_ordered (Tree-F.Object ms) ≡ true → ValueOrdered value → IsOrdered (Object (with_member key value ms))
object-ordered key value ms h v =
    let s = and_parts _ _ h in
    object_ordered (with_member key value ms)
    ∙ both _ _ (keys_rise-members (with_member key value ms) ∙ with_member-rises key value ms (sym (keys_rise-members ms) ∙ s.0)) (with_member-values key value ms s.1 v)

values_of : (ms : List Member) → layer_ordered (Tree-F.Object ms) ≡ true → list_all value_ordered ms ≡ true
values_of ms h = (and_parts (keys_rise (map ordered_member ms)) _ h).1

-- ---- lists

abbrev AllOrdered : List Tree → Type 0
AllOrdered ts = list_all is_ordered ts ≡ true

all-append : (xs ys : List Tree) → AllOrdered xs → AllOrdered ys → AllOrdered (xs ++ ys)
all-append xs ys p q = list_all-append is_ordered xs ys ∙ both _ _ p q

all-take : (n : ℕ) (ts : List Tree) → AllOrdered ts → AllOrdered (take n ts)
all-take zero ts h = refl
all-take (suc n) [] h = refl
all-take (suc n) (t ∷ ts) h = let s = and_parts _ _ h in both _ _ s.0 (all-take n ts s.1)

all-drop : (n : ℕ) (ts : List Tree) → AllOrdered ts → AllOrdered (drop n ts)
all-drop zero ts h = h
all-drop (suc n) [] h = refl
all-drop (suc n) (t ∷ ts) h = all-drop n ts (and_parts (is_ordered t) _ h).1

all-set : (ts : List Tree) (n : ℕ) (new : Tree) → AllOrdered ts → IsOrdered new → AllOrdered (set ts n new)
all-set [] n new h k = refl
all-set (t ∷ ts) zero new h k = both _ _ k (and_parts (is_ordered t) _ h).1
all-set (t ∷ ts) (suc n) new h k = let s = and_parts (is_ordered t) _ h in both _ _ s.0 (all-set ts n new s.1 k)

all-get_or : (n : ℕ) (ts : List Tree) → AllOrdered ts → IsOrdered (get_or ts n Null)
all-get_or n [] h = null_ordered
all-get_or zero (t ∷ ts) h = (and_parts (is_ordered t) _ h).0
all-get_or (suc n) (t ∷ ts) h = all-get_or n ts (and_parts (is_ordered t) _ h).1

list-ordered : (ts : List Tree) → AllOrdered ts → IsOrdered (Items ts)
list-ordered ts h = list_ordered ts ∙ h

-- ---- the last part

abbrev OkOrdered : Result Tree EditFault → Type 0
OkOrdered r = IfOk r IsOrdered

layer_of : (t : Tree) → IsOrdered t → layer_ordered (out-Tree t) ≡ true
layer_of t h = sym (is_ordered-out t) ∙ h

posted-ordered : (body : Tree) (x : Tree-F Tree Member) → IsOrdered body → layer_ordered x ≡ true → IsOrdered (posted body x)
posted-ordered body (Tree-F.Items items) b h = list-ordered (items ++ body ∷ []) (all-append items (body ∷ []) h (both _ _ b refl))
posted-ordered body _ b h = b

key_edit-ordered : (verb : Verb) (body : Tree) (old : Option Tree) → IsOrdered body → ValueOrdered old → IfOk (key_edit verb body old) ValueOrdered
key_edit-ordered Post body (Some old) b h = posted-ordered body (out-Tree old) b (layer_of old h)
key_edit-ordered Put body (Some old) b h = tt
key_edit-ordered Patch body (Some old) b h = b
key_edit-ordered Delete body (Some old) b h = tt
key_edit-ordered Post body None b h = b
key_edit-ordered Put body None b h = b
key_edit-ordered Patch body None b h = tt
key_edit-ordered Delete body None b h = tt

position_edit-ordered : (verb : Verb) (body : Tree) (items : List Tree) (n : ℕ) → IsOrdered body → AllOrdered items → IfOk (position_edit verb body items n) AllOrdered
position_edit-ordered Post body items n b h = tt
position_edit-ordered Put body items n b h = all-append (take n items) (body ∷ drop n items) (all-take n items h) (both _ _ b (all-drop n items h))
position_edit-ordered Patch body items n b h = all-set items n body h b
position_edit-ordered Delete body items n b h = all-append (take n items) (drop (suc n) items) (all-take n items h) (all-drop (suc n) items h)

last_edit-ordered : (verb : Verb) (body : Tree) (part : List ℕ) (x : Tree-F Tree Member) → IsOrdered body → layer_ordered x ≡ true → OkOrdered (last_edit verb body part x)
last_edit-ordered verb body part (Tree-F.Object members) b h =
    next_ok ValueOrdered IsOrdered (key_edit verb body (member_at part members)) (λ value. Ok (Object (with_member part value members)))
    (key_edit-ordered verb body (member_at part members) b (member_at-ordered part members (values_of members h)))
    (λ value v. object-ordered part value members h v)
last_edit-ordered verb body part (Tree-F.Items items) b h =
    next_ok (λ _. Unit {0}) IsOrdered (place (bound verb items) part) (λ n. position_edit verb body items n ▷ λ made. Ok (Items made)) (any_ok _)
    (λ n _. next_ok AllOrdered IsOrdered (position_edit verb body items n) (λ made. Ok (Items made)) (position_edit-ordered verb body items n b h) (λ made k. list-ordered made k))
last_edit-ordered verb body part _ b h = tt

all_posted-ordered : (items : List Tree) (x : Tree-F Tree Member) → AllOrdered items → layer_ordered x ≡ true → OkOrdered (all_posted items x)
all_posted-ordered items (Tree-F.Items more) h k = list-ordered (items ++ more) (all-append items more h k)
all_posted-ordered items _ h k = tt

ellipsis_edit-ordered : (body : Tree) (x : Tree-F Tree Member) → IsOrdered body → layer_ordered x ≡ true → OkOrdered (ellipsis_edit body x)
ellipsis_edit-ordered body (Tree-F.Items items) b h = all_posted-ordered items (out-Tree body) h (layer_of body b)
ellipsis_edit-ordered body _ b h = tt

unless_null-ordered : (t : Tree) → IsOrdered t → ValueOrdered (unless_null t)
unless_null-ordered t h = elim (is_null t) as (λ b. ValueOrdered (cond b None (Some t))) [ true ↦ tt | false ↦ h ]

-- ---- the whole change

entered-ordered : (verb : Verb) (value : Option Tree) → ValueOrdered value → IsOrdered (entered verb value)
entered-ordered Put None h = empty_object_ordered
entered-ordered Put (Some t) h = elim (is_null t) as (λ b. IsOrdered (unwrap_or (cond b None (Some t)) (Object []))) [ true ↦ empty_object_ordered | false ↦ h ]
entered-ordered _ value h = or_null-ordered value h

way_edit-ordered : (verb : Verb) (edit_below : Tree → Result Tree EditFault) (part : List ℕ) (x : Tree-F Tree Member) → ((t : Tree) → IsOrdered t → OkOrdered (edit_below t)) → layer_ordered x ≡ true → OkOrdered (way_edit verb edit_below part x)
way_edit-ordered verb edit_below part (Tree-F.Object members) f h =
    next_ok IsOrdered IsOrdered (edit_below (entered verb (member_at part members))) (λ made. Ok (Object (with_member part (Some made) members)))
    (f _ (entered-ordered verb _ (member_at-ordered part members (values_of members h))))
    (λ made k. object-ordered part (Some made) members h k)
way_edit-ordered verb edit_below part (Tree-F.Items items) f h =
    next_ok (λ _. Unit {0}) IsOrdered (place (length items) part) (λ n. edit_below (get_or items n Null) ▷ λ made. Ok (Items (set items n made))) (any_ok _)
    (λ n _. next_ok IsOrdered IsOrdered (edit_below (get_or items n Null)) (λ made. Ok (Items (set items n made))) (f _ (all-get_or n items h))
    (λ made k. list-ordered (set items n made) (all-set items n made h k)))
way_edit-ordered verb edit_below part _ f h = tt

pub change-ordered : (verb : Verb) (body : Tree) (parts : List (List ℕ)) (t : Tree) → IsOrdered body → IsOrdered t → OkOrdered (change verb body parts t)
change-ordered verb body [] t b h =
    next_ok ValueOrdered IsOrdered (key_edit verb body (unless_null t)) (λ value. Ok (or_null value))
    (key_edit-ordered verb body _ b (unless_null-ordered t h)) (λ value v. or_null-ordered value v)
change-ordered verb body (part ∷ []) t b h =
    either_ok IsOrdered (bytes_eq part ellipsis) (ellipsis_edit body (out-Tree t)) (last_edit verb body part (out-Tree t))
    (ellipsis_edit-ordered body (out-Tree t) b (layer_of t h)) (last_edit-ordered verb body part (out-Tree t) b (layer_of t h))
change-ordered verb body (part ∷ next ∷ rest) t b h =
    way_edit-ordered verb (change verb body (next ∷ rest)) part (out-Tree t) (λ u k. change-ordered verb body (next ∷ rest) u b k) (layer_of t h)
