-- An edit leaves what stands at a path that is apart from its place.
use Rattle.std.proofs.Common.{◌≡◌, ◌≢◌, ℕ, suc, ◌<◌, ◌==◌, nat_lt, not, List, [], ◌∷◌, ◌++◌, length, get_or, take, drop, set, slice_get, Option, Some, None, Result, Ok, Err, IfOk, Bool, true, false, cond, ◌&&◌, ◌⊎◌, inl, inr, unwrap_or, refl, sym, ap, ◌∙◌, subst, arith}
use Rattle.std.proofs.lemmas.Bool.Decides.{nat_tests}
use Rattle.std.proofs.lemmas.Option.{slice_get-get_or, unwrap_or-slice_get}
use Rattle.std.proofs.lemmas.Slice.Eq.{bytes_eq-Decides}
use Rattle.std.specs.Result.{result_unwrap_or}
use Rattle.std.specs.Str.{bytes_eq}
use Rattle.cd_text.specs.Gives.{Gives}
use Rattle.cd_text.specs.Steps.{◌▷◌, refused_where}
use Rattle.cd_tree.specs.Fields.{null_layer}
use Rattle.cd_tree.specs.Tree.{depth, text}
use Rattle.cd_tree.specs.declared.limits.TheConstants.{MAX_DEPTH, MAX_TEXT_BYTES}
use Rattle.cd_tree.specs.declared.path.Path.{Path}
use Rattle.cd_tree.specs.declared.tree.Member.{Member}
use Rattle.cd_tree.specs.declared.tree.Tree.{Tree, Null, Items, Object, out-Tree}
use Rattle.cd_tree.specs.declared.tree.Tree.TheOpen.{Tree-F}
use Rattle.cd_tree.specs.declared.tree.Tree.TheVariants.{outs-Null}
use Rattle.cd_path.specs.Apart.{is_same, names_same, is_behind, names_behind, apart, LeavesOthers}
use Rattle.cd_path.specs.Editing.{bound, position_edit, key_edit, last_edit, all_posted, ellipsis_edit, entered, way_edit, change, within_limits}
use Rattle.cd_path.specs.Looking.{member_at, child_layer, child, or_null, walk, ellipsis, ends_in_ellipsis}
use Rattle.cd_path.specs.Members.{with_member}
use Rattle.cd_path.specs.Position.{position, place}
use Rattle.cd_path.specs.declared.fault.EditFault.{EditFault}
use Rattle.cd_path.specs.declared.fault.EditFault.TheVariants.{NotTraversable, EllipsisVerb, ResultTooDeep, ResultTooLong, NoMemory}
use Rattle.cd_path.specs.declared.verb.Verb.{Verb}
use Rattle.cd_path.specs.declared.verb.Verb.TheVariants.{Post, Put, Patch, Delete}
use Rattle.cd_path.proofs.Outcomes.{next_ok, any_ok, is_itself, from_ok, all_ok, either_ok, unless_ok, place_tells, given}
use Rattle.cd_path.proofs.SetMembers.{member_at-with_member-other, member_at-with_member-same}
use Rattle.cd_path.proofs.Steps.{element_found, element_is, child-Items, child-Object, walk_into, walk_through, get_appended, get_in_front, get_set_other, get_set_same}

-- the same stands there afterwards
abbrev pub Keeps : List (List ℕ) → Tree → Tree → Type 0
Keeps parts t made = (found : Option Tree) → walk parts (Some t) ≡ Ok found → walk parts (Some made) ≡ Ok found

-- ---- one part

step_ok : (more : List (List ℕ)) (r s : Result (Option Tree) EditFault) → ((c : Option Tree) → r ≡ Ok c → s ≡ Ok c) → (found : Option Tree) → (r ▷ walk more) ≡ Ok found → (s ▷ walk more) ≡ Ok found
step_ok more (Ok c) s h found e = ap (λ r. r ▷ walk more) (h c refl) ∙ e
step_ok more (Err f) s h found e = cc

keeps_child : (t made : Tree) (other : List ℕ) (more : List (List ℕ)) → ((c : Option Tree) → child other t ≡ Ok c → child other made ≡ Ok c) → Keeps (other ∷ more) t made
keeps_child t made other more h = step_ok more (child other t) (child other made) h

elements_kept : (xs ys : List Tree) (other : List ℕ) (c : Option Tree) → ((m : ℕ) (u : Tree) → position other ≡ Some m → slice_get xs m ≡ Some u → slice_get ys m ≡ Some u)
    → child_layer other (Tree-F.Items xs) ≡ Ok c → child_layer other (Tree-F.Items ys) ≡ Ok c
elements_kept xs ys other c h e =
    let f = element_found xs other c e in
    element_is ys other f.at f.value f.names (h f.at f.value f.names f.there) ∙ ap Ok (sym f.is)

-- a list whose elements at a part stay
keeps_items : (t : Tree) (xs ys : List Tree) (other : List ℕ) (more : List (List ℕ)) → out-Tree t ≡ Tree-F.Items xs → ((m : ℕ) (u : Tree) → position other ≡ Some m → slice_get xs m ≡ Some u → slice_get ys m ≡ Some u) → Keeps (other ∷ more) t (Items ys)
keeps_items t xs ys other more e h =
    keeps_child t (Items ys) other more (λ c k. child-Items other ys ∙ elements_kept xs ys other c h (sym (ap (child_layer other) e) ∙ k))

-- an object whose value at a key stays
keeps_object : (t : Tree) (ms ns : List Member) (other : List ℕ) (more : List (List ℕ)) → out-Tree t ≡ Tree-F.Object ms → member_at other ns ≡ member_at other ms → Keeps (other ∷ more) t (Object ns)
keeps_object t ms ns other more e h =
    keeps_child t (Object ns) other more (λ c k. child-Object other ns ∙ ap Ok h ∙ sym (ap (child_layer other) e) ∙ k)

-- ---- what the tests say

same_of : (a b : ℕ) → (a == b) ≡ true → a ≡ b
same_of a b h = grind (arith, nat_tests)

differ_of : (a b : ℕ) → (a == b) ≡ false → a ≢ b
differ_of a b h = grind (arith, nat_tests)

front_of : (n m : ℕ) → (n == m) ≡ false → nat_lt n m ≡ false → m < n
front_of n m d b = grind (arith, nat_tests)

parts_differ : (p q : Option ℕ) (n m : ℕ) → p ≡ Some n → q ≡ Some m → is_same p q ≡ false → m ≢ n
parts_differ p q n m e f h =
    let d = differ_of n m (sym (ap (λ o. is_same (Some n) o) f) ∙ sym (ap (λ o. is_same o q) e) ∙ h) in
    λ (s : m ≡ n). d (sym s)

part_in_front : (p q : Option ℕ) (n m : ℕ) → p ≡ Some n → q ≡ Some m → is_same p q ≡ false → is_behind p q ≡ false → m < n
part_in_front p q n m e f h k =
    front_of n m (sym (ap (λ o. is_same (Some n) o) f) ∙ sym (ap (λ o. is_same o q) e) ∙ h) (sym (ap (λ o. is_behind (Some n) o) f) ∙ sym (ap (λ o. is_behind o q) e) ∙ k)

part_same : (p q : Option ℕ) (n : ℕ) → p ≡ Some n → is_same p q ≡ true → q ≡ Some n
part_same None q n e h = cc
part_same (Some k) None n e h = cc
part_same (Some k) (Some m) n e h = let s : k ≡ m = same_of k m h in ap Some (sym s) ∙ e

neither : (b c : Bool) → cond b false (not c) ≡ true → (b ≡ false) × (c ≡ false)
neither true c h = cc
neither false true h = cc
neither false false h = (refl, refl)

-- ---- the last part

position_keeps : (verb : Verb) (body t : Tree) (xs : List Tree) (n : ℕ) (other : List ℕ) (more : List (List ℕ)) → out-Tree t ≡ Tree-F.Items xs → ((m : ℕ) → position other ≡ Some m → m < n)
    → IfOk (position_edit verb body xs n) (λ ys. Keeps (other ∷ more) t (Items ys))
position_keeps Post body t xs n other more e h = tt
position_keeps Put body t xs n other more e h = keeps_items t xs (take n xs ++ body ∷ drop n xs) other more e (λ m u p g. get_in_front xs (body ∷ drop n xs) n m u (h m p) g)
position_keeps Patch body t xs n other more e h = keeps_items t xs (set xs n body) other more e (λ m u p g. get_set_other xs body n m u (λ s. let l : m < n = h m p in absurd (omega arith)) g)
position_keeps Delete body t xs n other more e h = keeps_items t xs (take n xs ++ drop (suc n) xs) other more e (λ m u p g. get_in_front xs (drop (suc n) xs) n m u (h m p) g)

last_keeps : (verb : Verb) (body t : Tree) (part other : List ℕ) (more : List (List ℕ)) (x : Tree-F Tree Member) → out-Tree t ≡ x → names_same part other x ≡ false → names_behind part other x ≡ false
    → IfOk (last_edit verb body part x) (Keeps (other ∷ more) t)
last_keeps verb body t part other more (Tree-F.Object ms) e h k =
    next_ok (λ _. Unit {0}) (Keeps (other ∷ more) t) (key_edit verb body (member_at part ms)) (λ value. Ok (Object (with_member part value ms))) (any_ok _)
    (λ value _. keeps_object t ms (with_member part value ms) other more e (member_at-with_member-other part other value ms h))
last_keeps verb body t part other more (Tree-F.Items xs) e h k =
    next_ok (λ n. (position part ≡ Some n) × (n < bound verb xs)) (Keeps (other ∷ more) t) (place (bound verb xs) part) (λ n. position_edit verb body xs n ▷ λ ys. Ok (Items ys)) (place_tells (bound verb xs) part)
    (λ n told. next_ok (λ ys. Keeps (other ∷ more) t (Items ys)) (Keeps (other ∷ more) t) (position_edit verb body xs n) (λ ys. Ok (Items ys))
    (position_keeps verb body t xs n other more e (λ m p. part_in_front (position part) (position other) n m told.0 p h k)) (λ ys kept. kept))
last_keeps verb body t part other more _ e h k = tt

all_posted_keeps : (t : Tree) (xs : List Tree) (x : Tree-F Tree Member) (other : List ℕ) (more : List (List ℕ)) → out-Tree t ≡ Tree-F.Items xs → IfOk (all_posted xs x) (Keeps (other ∷ more) t)
all_posted_keeps t xs (Tree-F.Items ys) other more e = keeps_items t xs (xs ++ ys) other more e (λ m u p g. get_appended xs ys m u g)
all_posted_keeps t xs _ other more e = tt

ellipsis_keeps : (body t : Tree) (x : Tree-F Tree Member) (other : List ℕ) (more : List (List ℕ)) → out-Tree t ≡ x → IfOk (ellipsis_edit body x) (Keeps (other ∷ more) t)
ellipsis_keeps body t (Tree-F.Items xs) other more e = all_posted_keeps t xs (out-Tree body) other more e
ellipsis_keeps body t _ other more e = tt

-- ---- a list on the way

abbrev Inner : (Tree → Result Tree EditFault) → List (List ℕ) → List (List ℕ) → Type 0
Inner edit_below rest more = (u : Tree) → apart rest more u ≡ true → IfOk (edit_below u) (Keeps more u)

same_place_keeps : (t : Tree) (xs : List Tree) (other : List ℕ) (more : List (List ℕ)) (n : ℕ) (made : Tree) → out-Tree t ≡ Tree-F.Items xs → position other ≡ Some n → n < length xs → Keeps more (get_or xs n Null) made
    → Keeps (other ∷ more) t (Items (set xs n made))
same_place_keeps t xs other more n made e p h k found w =
    let u = get_or xs n Null in
    let from : child other t ≡ Ok (Some u) = ap (child_layer other) e ∙ element_is xs other n u p (slice_get-get_or xs n Null h) in
    let to : child other (Items (set xs n made)) ≡ Ok (Some made) = child-Items other (set xs n made) ∙ element_is (set xs n made) other n made p (get_set_same xs made n h) in
    walk_through (Items (set xs n made)) other more (Some made) found to (k found (walk_into t other more (Some u) found from w))

element_under : (xs : List Tree) (part : List ℕ) (n : ℕ) → place (length xs) part ≡ Ok n → or_null (result_unwrap_or (child_layer part (Tree-F.Items xs)) None) ≡ get_or xs n Null
element_under xs part n e = ap (λ r. or_null (result_unwrap_or (r ▷ λ m. Ok (slice_get xs m)) None)) e ∙ unwrap_or-slice_get xs n Null

element_keeps : (b : Bool) (rest more : List (List ℕ)) (edit_below : Tree → Result Tree EditFault) (t : Tree) (xs : List Tree) (part other : List ℕ) (n : ℕ) → out-Tree t ≡ Tree-F.Items xs → Inner edit_below rest more
    → position part ≡ Some n → n < length xs → is_same (position part) (position other) ≡ b → cond b (apart rest more (get_or xs n Null)) true ≡ true
    → IfOk (edit_below (get_or xs n Null) ▷ λ made. Ok (Items (set xs n made))) (Keeps (other ∷ more) t)
element_keeps true rest more edit_below t xs part other n e k p l s h =
    next_ok (Keeps more (get_or xs n Null)) (Keeps (other ∷ more) t) (edit_below (get_or xs n Null)) (λ made. Ok (Items (set xs n made))) (k (get_or xs n Null) h)
    (λ made kept. same_place_keeps t xs other more n made e (part_same (position part) (position other) n p s) l kept)
element_keeps false rest more edit_below t xs part other n e k p l s h =
    next_ok (λ _. Unit {0}) (Keeps (other ∷ more) t) (edit_below (get_or xs n Null)) (λ made. Ok (Items (set xs n made))) (any_ok _)
    (λ made _. keeps_items t xs (set xs n made) other more e (λ m u q g. get_set_other xs made n m u (parts_differ (position part) (position other) n m p q s) g))

-- ---- an object on the way

null_or_same : (t : Tree) (x : Tree-F Tree Member) → out-Tree t ≡ x → (out-Tree t ≡ Tree-F.Null) ⊎ (unwrap_or (cond (null_layer x) None (Some t)) (Object []) ≡ t)
null_or_same t Tree-F.Null e = inl e
null_or_same t _ e = inr refl

-- a value is entered as it is, unless it is null
pub entered_same : (verb : Verb) (value : Option Tree) → (out-Tree (or_null value) ≡ Tree-F.Null) ⊎ (entered verb value ≡ or_null value)
entered_same Put None = inl outs-Null
entered_same Put (Some t) = null_or_same t (out-Tree t) refl
entered_same _ value = inr refl

apart_empty : (rest : List (List ℕ)) (u : Tree) → apart rest [] u ≡ false
apart_empty [] u = refl
apart_empty (p ∷ rest) u = refl

-- nothing but null itself is found in null
pub null_refuses : (value : Option Tree) (part : List ℕ) (more : List (List ℕ)) (found : Option Tree) → out-Tree (or_null value) ≡ Tree-F.Null → walk (part ∷ more) value ≡ Ok found → ⊥
null_refuses value part more found e w = let no : Err NotTraversable ≡ Ok found = sym (ap (λ x. child_layer part x ▷ walk more) e) ∙ w in cc

null_keeps : (t : Tree) (ms : List Member) (rest : List (List ℕ)) (other : List ℕ) (more : List (List ℕ)) (made : Tree) → out-Tree t ≡ Tree-F.Object ms → out-Tree (or_null (member_at other ms)) ≡ Tree-F.Null
    → apart rest more (or_null (member_at other ms)) ≡ true → Keeps (other ∷ more) t made
null_keeps t ms rest other [] made e z h found w = let no : false ≡ true = sym (apart_empty rest _) ∙ h in cc
null_keeps t ms rest other (next ∷ more) made e z h found w =
    absurd (null_refuses (member_at other ms) next more found z (walk_into t other (next ∷ more) (member_at other ms) found (ap (child_layer other) e) w))

from_value : (value : Option Tree) (part : List ℕ) (more : List (List ℕ)) (found : Option Tree) → walk (part ∷ more) value ≡ Ok found → walk (part ∷ more) (Some (or_null value)) ≡ Ok found
from_value None part more found w = w
from_value (Some v) part more found w = w

member_keeps : (t : Tree) (ms : List Member) (rest : List (List ℕ)) (other : List ℕ) (more : List (List ℕ)) (made : Tree) → out-Tree t ≡ Tree-F.Object ms
    → apart rest more (or_null (member_at other ms)) ≡ true → Keeps more (or_null (member_at other ms)) made → Keeps (other ∷ more) t (Object (with_member other (Some made) ms))
member_keeps t ms rest other [] made e h kept found w = let no : false ≡ true = sym (apart_empty rest _) ∙ h in cc
member_keeps t ms rest other (next ∷ more) made e h kept found w =
    let from = walk_into t other (next ∷ more) (member_at other ms) found (ap (child_layer other) e) w in
    let to : child other (Object (with_member other (Some made) ms)) ≡ Ok (Some made) = child-Object other (with_member other (Some made) ms) ∙ ap Ok (member_at-with_member-same other made ms) in
    walk_through _ other (next ∷ more) (Some made) found to (kept found (from_value (member_at other ms) next more found from))

key_keeps_same : (verb : Verb) (rest more : List (List ℕ)) (edit_below : Tree → Result Tree EditFault) (t : Tree) (ms : List Member) (part : List ℕ) → out-Tree t ≡ Tree-F.Object ms → Inner edit_below rest more
    → apart rest more (or_null (member_at part ms)) ≡ true
    → IfOk (edit_below (entered verb (member_at part ms)) ▷ λ made. Ok (Object (with_member part (Some made) ms))) (Keeps (part ∷ more) t)
key_keeps_same verb rest more edit_below t ms part e k h =
    elim (entered_same verb (member_at part ms)) [
      | inl z ↦ next_ok (λ _. Unit {0}) (Keeps (part ∷ more) t) (edit_below (entered verb (member_at part ms))) (λ made. Ok (Object (with_member part (Some made) ms))) (any_ok _)
          (λ made _. null_keeps t ms rest part more _ e z h)
      | inr s ↦ next_ok (Keeps more (or_null (member_at part ms))) (Keeps (part ∷ more) t) (edit_below (entered verb (member_at part ms))) (λ made. Ok (Object (with_member part (Some made) ms)))
          (subst (λ (u : Tree). IfOk (edit_below u) (Keeps more (or_null (member_at part ms)))) (sym s) (k (or_null (member_at part ms)) h))
          (λ made kept. member_keeps t ms rest part more made e h kept)
    ]

key_keeps : (b : Bool) (verb : Verb) (rest more : List (List ℕ)) (edit_below : Tree → Result Tree EditFault) (t : Tree) (ms : List Member) (part other : List ℕ) → out-Tree t ≡ Tree-F.Object ms → Inner edit_below rest more
    → bytes_eq part other ≡ b → cond b (apart rest more (or_null (member_at part ms))) true ≡ true
    → IfOk (edit_below (entered verb (member_at part ms)) ▷ λ made. Ok (Object (with_member part (Some made) ms))) (Keeps (other ∷ more) t)
key_keeps true verb rest more edit_below t ms part other e k s h =
    subst (λ (q : List ℕ). IfOk (edit_below (entered verb (member_at part ms)) ▷ λ made. Ok (Object (with_member part (Some made) ms))) (Keeps (q ∷ more) t)) ((bytes_eq-Decides part other).0 s)
    (key_keeps_same verb rest more edit_below t ms part e k h)
key_keeps false verb rest more edit_below t ms part other e k s h =
    next_ok (λ _. Unit {0}) (Keeps (other ∷ more) t) (edit_below (entered verb (member_at part ms))) (λ made. Ok (Object (with_member part (Some made) ms))) (any_ok _)
    (λ made _. keeps_object t ms (with_member part (Some made) ms) other more e (member_at-with_member-other part other (Some made) ms s))

-- ---- the whole

way_keeps : (verb : Verb) (rest more : List (List ℕ)) (edit_below : Tree → Result Tree EditFault) (t : Tree) (part other : List ℕ) (x : Tree-F Tree Member) → out-Tree t ≡ x → Inner edit_below rest more
    → cond (names_same part other x) (apart rest more (or_null (result_unwrap_or (child_layer part x) None))) true ≡ true
    → IfOk (way_edit verb edit_below part x) (Keeps (other ∷ more) t)
way_keeps verb rest more edit_below t part other (Tree-F.Object ms) e k h = key_keeps (bytes_eq part other) verb rest more edit_below t ms part other e k refl h
way_keeps verb rest more edit_below t part other (Tree-F.Items xs) e k h =
    next_ok (λ n. place (length xs) part ≡ Ok n) (Keeps (other ∷ more) t) (place (length xs) part) (λ n. edit_below (get_or xs n Null) ▷ λ made. Ok (Items (set xs n made))) (is_itself _)
    (λ n is. let told = from_ok (λ m. (position part ≡ Some m) × (m < length xs)) (place (length xs) part) n is (place_tells (length xs) part) in
    element_keeps (is_same (position part) (position other)) rest more edit_below t xs part other n e k told.0 told.1 refl
    (subst (λ (u : Tree). cond (is_same (position part) (position other)) (apart rest more u) true ≡ true) (element_under xs part n is) h))
way_keeps verb rest more edit_below t part other _ e k h = tt

pub change-keeps : (verb : Verb) (body : Tree) (parts other : List (List ℕ)) (t : Tree) → apart parts other t ≡ true → IfOk (change verb body parts t) (Keeps other t)
change-keeps verb body [] q t h = cc
change-keeps verb body (part ∷ []) [] t h = cc
change-keeps verb body (part ∷ next ∷ rest) [] t h = cc
change-keeps verb body (part ∷ []) (other ∷ more) t h =
    let n = neither (names_same part other (out-Tree t)) (names_behind part other (out-Tree t)) h in
    either_ok (Keeps (other ∷ more) t) (bytes_eq part ellipsis) (ellipsis_edit body (out-Tree t)) (last_edit verb body part (out-Tree t))
    (ellipsis_keeps body t (out-Tree t) other more refl) (last_keeps verb body t part other more (out-Tree t) refl n.0 n.1)
change-keeps verb body (part ∷ next ∷ rest) (other ∷ more) t h =
    way_keeps verb (next ∷ rest) more (change verb body (next ∷ rest)) t part other (out-Tree t) refl (λ u k. change-keeps verb body (next ∷ rest) more u k) h

-- ---- an edit

look_kept : (b : Bool) (parts : List (List ℕ)) (t made : Tree) (found : Option Tree) → Keeps parts t made → (refused_where b EllipsisVerb ▷ λ _. walk parts (Some t)) ≡ Ok found → (refused_where b EllipsisVerb ▷ λ _. walk parts (Some made)) ≡ Ok found
look_kept true parts t made found k h = cc
look_kept false parts t made found k h = k found h

limits_ok : (made : Tree) (P : Tree → Type 0) → P made → IfOk (within_limits made) P
limits_ok made P h = unless_ok P (nat_lt MAX_DEPTH (depth made)) ResultTooDeep _ (unless_ok P (nat_lt MAX_TEXT_BYTES (length (text made))) ResultTooLong (Ok made) h)

abbrev Other : List (List ℕ) → Tree → Type 0
Other parts t = (other : List (List ℕ)) × (apart parts other t ≡ true)

change-leaves : (t : Tree) (verb : Verb) (path : Path) (body : Tree) → IfOk (change verb body path.parts t ▷ within_limits) (LeavesOthers path t)
change-leaves t verb path body =
    next_ok (λ made. (o : Other path.parts t) → Keeps o.0 t made) (LeavesOthers path t) (change verb body path.parts t) within_limits
    (all_ok (λ (o : Other path.parts t) made. Keeps o.0 t made) _ (λ o. change-keeps verb body path.parts o.0 t o.1))
    (λ made k. limits_ok made (LeavesOthers path t) (λ other found a w. look_kept (ends_in_ellipsis other.parts) other.parts t made found (k (other.parts, a)) w))

pub change_leaves : (r : Result Tree EditFault) (t : Tree) (verb : Verb) (path : Path) (parts : List (List ℕ)) (body : Tree) → parts ≡ path.parts → Gives NoMemory r (change verb body parts t ▷ within_limits) → IfOk r (LeavesOthers path t)
change_leaves r t verb path parts body is g =
    given (LeavesOthers path t) r (change verb body path.parts t ▷ within_limits) (subst (λ ps. Gives NoMemory r (change verb body ps t ▷ within_limits)) is g) (change-leaves t verb path body)
