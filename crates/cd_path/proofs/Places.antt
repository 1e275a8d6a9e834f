-- What an edit leaves at its own place.
use Rattle.std.proofs.Common.{◌≡◌, ◌≢◌, ℕ, zero, suc, ◌<◌, ◌≤◌, List, [], ◌∷◌, ◌++◌, length, take, drop, get_or, set, slice_get, Option, Some, None, Result, Ok, Err, IfOk, Bool, true, false, cond, ◌&&◌, not, refl, sym, ap, ◌∙◌, subst, arith}
use Rattle.std.proofs.lemmas.Option.{slice_get-get_or}
use Rattle.std.specs.Str.{bytes_eq}
use Rattle.cd_text.specs.Steps.{◌▷◌, refused_where}
use Rattle.cd_tree.specs.Fields.{null_layer, unless_null}
use Rattle.cd_tree.specs.Path.{◌▸◌}
use Rattle.cd_tree.specs.declared.path.Path.{Path}
use Rattle.cd_tree.specs.declared.tree.Member.{Member}
use Rattle.cd_tree.specs.declared.tree.Tree.{Tree, Null, Items, Object, out-Tree, roll-Tree, roll-out-Tree}
use Rattle.cd_tree.specs.declared.tree.Tree.TheOpen.{Tree-F}
use Rattle.cd_tree.specs.declared.tree.Tree.TheVariants.{outs-Null, outs-Items, outs-Object, rolls-Items}
use Rattle.cd_tree.proofs.Outcomes.{chained}
use Rattle.cd_path.specs.Editing.{posted, key_edit, bound, position_edit, last_edit, all_posted, ellipsis_edit, entered, way_edit, change, edit, is_post, within_limits}
use Rattle.cd_path.specs.Looking.{member_at, child_layer, child, or_null, walk, ellipsis, ends_in_ellipsis, look}
use Rattle.cd_path.specs.Members.{with_member}
use Rattle.cd_path.specs.Position.{position, place}
use Rattle.cd_path.specs.declared.fault.EditFault.{EditFault}
use Rattle.cd_path.specs.declared.fault.EditFault.TheVariants.{EllipsisVerb, BodyMissing, ResultTooDeep, ResultTooLong}
use Rattle.cd_path.specs.declared.verb.Verb.{Verb}
use Rattle.cd_path.specs.declared.verb.Verb.TheVariants.{Post, Put, Patch, Delete}
use Rattle.cd_path.proofs.Outcomes.{next_ok, is_itself, from_ok, place_tells}
use Rattle.cd_path.proofs.Puts.{change_way, last_is}
use Rattle.cd_path.proofs.SetMembers.{member_at-with_member-same, member_at-with_member-none}
use Rattle.cd_path.proofs.Steps.{element_found, element_is, child-Items, child-Object, walk_through, get_set_same, last_of_rest}

-- ---- what an edit that gives a tree has passed

let_by : {A : Type 0} (b : Bool) (fault : EditFault) (r : Result A EditFault) (a : A) → (refused_where b fault ▷ λ _. r) ≡ Ok a → (b ≡ false) × (r ≡ Ok a)
let_by true fault r a h = cc
let_by false fault r a h = (refl, h)

same_ok : {A : Type 0} (a b : A) → ◌≡◌ {A = Result A EditFault} (Ok a) (Ok b) → a ≡ b
same_ok a b h = cc

limits_kept : (m made : Tree) → within_limits m ≡ Ok made → m ≡ made
limits_kept m made h =
    let one = let_by _ ResultTooDeep _ made h in
    let two = let_by _ ResultTooLong (Ok m) made one.1 in
    same_ok m made two.1

made_by : (t : Tree) (verb : Verb) (path : Path) (body : Option Tree) (made : Tree) → edit t verb path body ≡ Ok made
    → ((ends_in_ellipsis path.parts && not (is_post verb)) ≡ false) × (change verb (or_null body) path.parts t ≡ Ok made)
made_by t verb path body made h =
    let one = let_by _ EllipsisVerb _ made h in
    let two = let_by _ BodyMissing _ made one.1 in
    let three = chained (change verb (or_null body) path.parts t) within_limits made two.1 in
    (one.0, three.1 ∙ ap Ok (limits_kept three.0 made three.2))

and_true : (b : Bool) → (b && true) ≡ false → b ≡ false
and_true true h = h
and_true false h = refl

look_is : (t : Tree) (path : Path) → ends_in_ellipsis path.parts ≡ false → look t path ≡ walk path.parts (Some t)
look_is t path p = ap (λ b. refused_where b EllipsisVerb ▷ λ _. walk path.parts (Some t)) p

looked : (t : Tree) (path : Path) (found : Option Tree) → look t path ≡ Ok found → (ends_in_ellipsis path.parts ≡ false) × (walk path.parts (Some t) ≡ Ok found)
looked t path found h = let_by (ends_in_ellipsis path.parts) EllipsisVerb (walk path.parts (Some t)) found h

-- ---- an edit that leaves the body, whatever was there

module _ (verb : Verb) (body : Tree) (at_key : (old : Option Tree) → IfOk (key_edit verb body old) (λ value. value ≡ Some body))
    (at_position : (xs : List Tree) (n : ℕ) → n < bound verb xs → IfOk (position_edit verb body xs n) (λ ys. slice_get ys n ≡ Some body)) where
  abbrev Leaves : List (List ℕ) → Tree → Type 0
  Leaves parts made = walk parts (Some made) ≡ Ok (Some body)

  last_leaves : (part : List ℕ) (x : Tree-F Tree Member) → IfOk (last_edit verb body part x) (Leaves (part ∷ []))
  last_leaves part (Tree-F.Object ms) =
      next_ok (λ value. value ≡ Some body) (Leaves (part ∷ [])) (key_edit verb body (member_at part ms)) (λ value. Ok (Object (with_member part value ms))) (at_key _)
      (λ value e. walk_through (Object (with_member part value ms)) part [] (Some body) (Some body)
      (child-Object part (with_member part value ms) ∙ ap (λ o. Ok (member_at part (with_member part o ms))) e ∙ ap Ok (member_at-with_member-same part body ms)) refl)
  last_leaves part (Tree-F.Items xs) =
      next_ok (λ n. (position part ≡ Some n) × (n < bound verb xs)) (Leaves (part ∷ [])) (place (bound verb xs) part) (λ n. position_edit verb body xs n ▷ λ ys. Ok (Items ys)) (place_tells (bound verb xs) part)
      (λ n told. next_ok (λ ys. slice_get ys n ≡ Some body) (Leaves (part ∷ [])) (position_edit verb body xs n) (λ ys. Ok (Items ys)) (at_position xs n told.1)
      (λ ys g. walk_through (Items ys) part [] (Some body) (Some body) (child-Items part ys ∙ element_is ys part n body told.0 g) refl))
  last_leaves part _ = tt

  way_leaves : (edit_below : Tree → Result Tree EditFault) (part : List ℕ) (rest : List (List ℕ)) (x : Tree-F Tree Member) → ((u : Tree) → IfOk (edit_below u) (Leaves rest)) → IfOk (way_edit verb edit_below part x) (Leaves (part ∷ rest))
  way_leaves edit_below part rest (Tree-F.Object ms) inner =
      next_ok (Leaves rest) (Leaves (part ∷ rest)) (edit_below (entered verb (member_at part ms))) (λ made. Ok (Object (with_member part (Some made) ms))) (inner _)
      (λ made w. walk_through (Object (with_member part (Some made) ms)) part rest (Some made) (Some body)
      (child-Object part (with_member part (Some made) ms) ∙ ap Ok (member_at-with_member-same part made ms)) w)
  way_leaves edit_below part rest (Tree-F.Items xs) inner =
      next_ok (λ n. (position part ≡ Some n) × (n < length xs)) (Leaves (part ∷ rest)) (place (length xs) part) (λ n. edit_below (get_or xs n Null) ▷ λ made. Ok (Items (set xs n made))) (place_tells (length xs) part)
      (λ n told. next_ok (Leaves rest) (Leaves (part ∷ rest)) (edit_below (get_or xs n Null)) (λ made. Ok (Items (set xs n made))) (inner _)
      (λ made w. walk_through (Items (set xs n made)) part rest (Some made) (Some body) (child-Items part (set xs n made) ∙ element_is (set xs n made) part n made told.0 (get_set_same xs made n told.1)) w))
  way_leaves edit_below part rest _ inner = tt

  change_leaves : (parts : List (List ℕ)) (t : Tree) → ends_in_ellipsis parts ≡ false → IfOk (change verb body parts t) (Leaves parts)
  change_leaves [] t p =
      next_ok (λ value. value ≡ Some body) (Leaves []) (key_edit verb body (unless_null t)) (λ value. Ok (or_null value)) (at_key _) (λ value e. ap (λ o. Ok (Some (or_null o))) e)
  change_leaves (part ∷ []) t p =
      subst (λ (b : Bool). IfOk (cond b (ellipsis_edit body (out-Tree t)) (last_edit verb body part (out-Tree t))) (Leaves (part ∷ []))) (sym p) (last_leaves part (out-Tree t))
  change_leaves (part ∷ next ∷ rest) t p = way_leaves (change verb body (next ∷ rest)) part (next ∷ rest) (out-Tree t) (λ u. change_leaves (next ∷ rest) u (sym (last_of_rest part next rest) ∙ p))

  leaves : (t made : Tree) (path : Path) → is_post verb ≡ false → edit t verb path (Some body) ≡ Ok made → look made path ≡ Ok (Some body)
  leaves t made path n h =
      let by = made_by t verb path (Some body) made h in
      let plain = and_true (ends_in_ellipsis path.parts) (ap (λ b. ends_in_ellipsis path.parts && not b) (sym n) ∙ by.0) in
      look_is made path plain ∙ from_ok (Leaves path.parts) (change verb body path.parts t) made by.1 (change_leaves path.parts t plain)

-- a value that is inserted
get_insert : (xs : List Tree) (n : ℕ) (new : Tree) → n ≤ length xs → slice_get (take n xs ++ new ∷ drop n xs) n ≡ Some new
get_insert xs zero new h = refl
get_insert [] (suc n) new h = absurd (omega arith)
get_insert (x ∷ xs) (suc n) new h = get_insert xs n new (omega arith)

put_key : (body : Tree) (old : Option Tree) → IfOk (key_edit Put body old) (λ value. value ≡ Some body)
put_key body (Some old) = tt
put_key body None = refl

patch_key : (body : Tree) (old : Option Tree) → IfOk (key_edit Patch body old) (λ value. value ≡ Some body)
patch_key body (Some old) = refl
patch_key body None = tt

pub put_leaves : (t body made : Tree) (path : Path) → edit t Put path (Some body) ≡ Ok made → look made path ≡ Ok (Some body)
put_leaves t body made path h = leaves Put body (put_key body) (λ xs n b. get_insert xs n body (omega (arith, b))) t made path refl h

pub patch_leaves : (t body made : Tree) (path : Path) → edit t Patch path (Some body) ≡ Ok made → look made path ≡ Ok (Some body)
patch_leaves t body made path h = leaves Patch body (patch_key body) (λ xs n b. get_set_same xs body n b) t made path refl h

-- ---- an edit at a last part, of what the parts before it lead to

from_null : (value : Option Tree) (rest : List (List ℕ)) → (walk rest value ▷ λ v. Ok (or_null v)) ≡ (walk rest (Some (or_null value)) ▷ λ v. Ok (or_null v))
from_null (Some v) rest = refl
from_null None [] = refl
from_null None (part ∷ rest) = refl

last_walk : (r : Result (Option Tree) EditFault) → (r ▷ walk []) ≡ r
last_walk (Ok v) = refl
last_walk (Err e) = refl

walk_after : (r : Result (Option Tree) EditFault) (rest : List (List ℕ)) (key : List ℕ) → ((v : Option Tree) → walk (rest ++ key ∷ []) v ≡ (walk rest v ▷ λ w. child key (or_null w)))
    → (r ▷ walk (rest ++ key ∷ [])) ≡ ((r ▷ walk rest) ▷ λ w. child key (or_null w))
walk_after (Ok v) rest key h = h v
walk_after (Err e) rest key h = refl

walk_from : (front : List (List ℕ)) (key : List ℕ) (found : Option Tree) → walk (front ++ key ∷ []) found ≡ (walk front found ▷ λ v. child key (or_null v))
walk_from [] key found = last_walk (child key (or_null found))
walk_from (part ∷ rest) key found = walk_after (child part (or_null found)) rest key (walk_from rest key)

-- a walk to a last part
walk_end : (front : List (List ℕ)) (key : List ℕ) (t : Tree) → walk (front ++ key ∷ []) (Some t) ≡ (walk front (Some t) ▷ λ v. child key (or_null v))
walk_end front key t = walk_from front key (Some t)

-- what the edit of the last part makes stands where the parts before it lead
record Within (verb : Verb) (body : Tree) (front : List (List ℕ)) (key : List ℕ) (u made : Tree) : Type 0 where
  pub inner : Tree
  pub is : change verb body (key ∷ []) u ≡ Ok inner
  pub there : walk front (Some made) ≡ Ok (Some inner)

module _ (verb : Verb) (body : Tree) (entry : (value : Option Tree) → entered verb value ≡ or_null value) where
  abbrev Inner : (Tree → Result Tree EditFault) → List (List ℕ) → List ℕ → Tree → Tree → Type 0
  Inner edit_below rest key u below = IfOk (edit_below below) (Within verb body rest key u)

  into_object : (edit_below : Tree → Result Tree EditFault) (part : List ℕ) (rest : List (List ℕ)) (key : List ℕ) (u : Tree) (ms : List Member) → Inner edit_below rest key u (or_null (member_at part ms))
      → IfOk (way_edit verb edit_below part (Tree-F.Object ms)) (Within verb body (part ∷ rest) key u)
  into_object edit_below part rest key u ms inner =
      next_ok (Within verb body rest key u) (Within verb body (part ∷ rest) key u) (edit_below (entered verb (member_at part ms))) (λ made. Ok (Object (with_member part (Some made) ms)))
      (subst (Inner edit_below rest key u) (sym (entry (member_at part ms))) inner)
      (λ made w. record {
        inner = w.inner;
        is = w.is;
        there = walk_through (Object (with_member part (Some made) ms)) part rest (Some made) (Some w.inner)
            (child-Object part (with_member part (Some made) ms) ∙ ap Ok (member_at-with_member-same part made ms)) w.there;
      })

  into_items : (edit_below : Tree → Result Tree EditFault) (part : List ℕ) (rest : List (List ℕ)) (key : List ℕ) (u : Tree) (xs : List Tree) → ((n : ℕ) → position part ≡ Some n → n < length xs → Inner edit_below rest key u (get_or xs n Null))
      → IfOk (way_edit verb edit_below part (Tree-F.Items xs)) (Within verb body (part ∷ rest) key u)
  into_items edit_below part rest key u xs inner =
      next_ok (λ n. (position part ≡ Some n) × (n < length xs)) (Within verb body (part ∷ rest) key u) (place (length xs) part) (λ n. edit_below (get_or xs n Null) ▷ λ made. Ok (Items (set xs n made)))
      (place_tells (length xs) part)
      (λ n told. next_ok (Within verb body rest key u) (Within verb body (part ∷ rest) key u) (edit_below (get_or xs n Null)) (λ made. Ok (Items (set xs n made))) (inner n told.0 told.1)
      (λ made w. record {
        inner = w.inner;
        is = w.is;
        there = walk_through (Items (set xs n made)) part rest (Some made) (Some w.inner)
            (child-Items part (set xs n made) ∙ element_is (set xs n made) part n made told.0 (get_set_same xs made n told.1)) w.there;
      }))

  same_place : (p : Option ℕ) (n m : ℕ) → p ≡ Some n → p ≡ Some m → n ≡ m
  same_place p n m a b = let q : Some n ≡ Some m = sym a ∙ b in cc

  into : (edit_below : Tree → Result Tree EditFault) (part : List ℕ) (rest : List (List ℕ)) (key : List ℕ) (u : Tree) (x : Tree-F Tree Member) (value : Option Tree) → child_layer part x ≡ Ok value
      → Inner edit_below rest key u (or_null value) → IfOk (way_edit verb edit_below part x) (Within verb body (part ∷ rest) key u)
  into edit_below part rest key u (Tree-F.Object ms) value c inner =
      into_object edit_below part rest key u ms (let same : member_at part ms ≡ value = cc in subst (λ (o : Option Tree). Inner edit_below rest key u (or_null o)) (sym same) inner)
  into edit_below part rest key u (Tree-F.Items xs) value c inner =
      let f = element_found xs part value c in
      into_items edit_below part rest key u xs (λ n p l.
      let here : slice_get xs n ≡ Some (get_or xs n Null) = slice_get-get_or xs n Null l in
      let there : slice_get xs n ≡ Some f.value = ap (λ m. slice_get xs m) (same_place (position part) n f.at p f.names) ∙ f.there in
      let same : or_null value ≡ get_or xs n Null = ap or_null (f.is ∙ sym there ∙ here) in
      subst (Inner edit_below rest key u) same inner)
  into edit_below part rest key u _ value c inner = tt

  from_start : (key : List ℕ) (t u : Tree) (r : Result Tree EditFault) → t ≡ u → IfOk r (λ made. change verb body (key ∷ []) t ≡ Ok made) → IfOk r (Within verb body [] key u)
  from_start key t u (Ok made) same k = record { inner = made; is = ap (change verb body (key ∷ [])) (sym same) ∙ k; there = refl }
  from_start key t u (Err e) same k = tt

  through : (front : List (List ℕ)) (key : List ℕ) (t u : Tree) → (walk front (Some t) ▷ λ v. Ok (or_null v)) ≡ Ok u → IfOk (change verb body (front ++ key ∷ []) t) (Within verb body front key u)
  through [] key t u h =
      let same : t ≡ u = same_ok t u h in
      from_start key t u (change verb body (key ∷ []) t) same (is_itself _)
  through (part ∷ rest) key t u h =
      let c = chained (walk (part ∷ rest) (Some t)) (λ v. Ok (or_null v)) u h in
      let d = chained (child part t) (walk rest) c.0 c.1 in
      let on : (walk rest (Some (or_null d.0)) ▷ λ v. Ok (or_null v)) ≡ Ok u = sym (from_null d.0 rest) ∙ ap (λ r. r ▷ λ v. Ok (or_null v)) d.2 ∙ c.2 in
      subst (λ (r : Result Tree EditFault). IfOk r (Within verb body (part ∷ rest) key u)) (sym (change_way verb body part rest key t))
      (into (change verb body (rest ++ key ∷ [])) part rest key u (out-Tree t) d.0 d.1 (through rest key (or_null d.0) u on))

-- ---- POST

key_post : (body : Tree) (old : Option Tree) → key_edit Post body old ≡ Ok (Some (posted body (out-Tree (or_null old))))
key_post body (Some old) = refl
key_post body None = ap (λ x. Ok (Some (posted body x))) (sym outs-Null)

no_position : (r : Result ℕ EditFault) (inner : Tree) → (r ▷ λ n. position_edit Post inner [] n ▷ λ made. Ok (Items made)) ≡ Ok inner → ⊥
no_position (Ok n) inner h = cc
no_position (Err e) inner h = cc

post_last : (body : Tree) (key : List ℕ) (x : Tree-F Tree Member) (found : Option Tree) (inner : Tree) → child_layer key x ≡ Ok found → last_edit Post body key x ≡ Ok inner → child key inner ≡ Ok (Some (posted body (out-Tree (or_null found))))
post_last body key (Tree-F.Object ms) found inner c h =
    let old : member_at key ms ≡ found = cc in
    let new = posted body (out-Tree (or_null (member_at key ms))) in
    let same = same_ok (Object (with_member key (Some new) ms)) inner (sym (ap (λ r. r ▷ λ value. Ok (Object (with_member key value ms))) (key_post body (member_at key ms))) ∙ h) in
    ap (child key) (sym same) ∙ child-Object key (with_member key (Some new) ms) ∙ ap Ok (member_at-with_member-same key new ms) ∙ ap (λ o. Ok (Some (posted body (out-Tree (or_null o))))) old
post_last body key (Tree-F.Items xs) found inner c h = absurd (no_position (place (length xs) key) inner h)
post_last body key _ found inner c h = absurd (let no : ⊥ = cc in no)

post_key : (front : List (List ℕ)) (key : List ℕ) (t body made : Tree) (found : Option Tree) → ends_in_ellipsis (front ++ key ∷ []) ≡ false → change Post body (front ++ key ∷ []) t ≡ Ok made → walk (front ++ key ∷ []) (Some t) ≡ Ok found
    → walk (front ++ key ∷ []) (Some made) ≡ Ok (Some (posted body (out-Tree (or_null found))))
post_key front key t body made found p e h =
    let c = chained (walk front (Some t)) (λ v. child key (or_null v)) found (sym (walk_end front key t) ∙ h) in
    let u = or_null c.0 in
    let w = from_ok (Within Post body front key u) (change Post body (front ++ key ∷ []) t) made e (through Post body (λ v. refl) front key t u (ap (λ r. r ▷ λ v. Ok (or_null v)) c.1)) in
    let plain : bytes_eq key ellipsis ≡ false = sym (last_is front key) ∙ p in
    let last : last_edit Post body key (out-Tree u) ≡ Ok w.inner = sym (ap (λ b. cond b (ellipsis_edit body (out-Tree u)) (last_edit Post body key (out-Tree u))) plain) ∙ w.is in
    walk_end front key made ∙ ap (λ r. r ▷ λ v. child key (or_null v)) w.there ∙ post_last body key (out-Tree u) found w.inner c.2 last

null_out : (t : Tree) (x : Tree-F Tree Member) → out-Tree t ≡ x → out-Tree (or_null (cond (null_layer x) None (Some t))) ≡ x
null_out t Tree-F.Null e = outs-Null
null_out t _ e = e

post_root : (t body made : Tree) (found : Option Tree) → change Post body [] t ≡ Ok made → walk [] (Some t) ≡ Ok found → walk [] (Some made) ≡ Ok (Some (posted body (out-Tree (or_null found))))
post_root t body made found e h =
    let there : Some t ≡ found = cc in
    let same = same_ok (posted body (out-Tree (or_null (unless_null t)))) made (sym (ap (λ r. r ▷ λ value. Ok (or_null value)) (key_post body (unless_null t))) ∙ e) in
    ap (λ m. Ok (Some m)) (sym same) ∙ ap (λ x. Ok (Some (posted body x))) (null_out t (out-Tree t) refl) ∙ ap (λ o. Ok (Some (posted body (out-Tree (or_null o))))) there

-- the parts before the last one, and it
record Split (parts : List (List ℕ)) : Type 0 where
  pub front : List (List ℕ)
  pub key : List ℕ
  pub is : parts ≡ front ++ key ∷ []

split : (first : List ℕ) (rest : List (List ℕ)) → Split (first ∷ rest)
split first [] = record { front = []; key = first; is = refl }
split first (next ∷ rest) = let s = split next rest in record { front = first ∷ s.front; key = s.key; is = ap (λ ps. first ∷ ps) s.is }

abbrev Posts : Tree → Tree → Tree → Option Tree → List (List ℕ) → Type 0
Posts t body made found parts = ends_in_ellipsis parts ≡ false → change Post body parts t ≡ Ok made → walk parts (Some t) ≡ Ok found → walk parts (Some made) ≡ Ok (Some (posted body (out-Tree (or_null found))))

post_parts : (parts : List (List ℕ)) (t body made : Tree) (found : Option Tree) → Posts t body made found parts
post_parts [] t body made found = λ p e h. post_root t body made found e h
post_parts (first ∷ rest) t body made found =
    let s = split first rest in
    subst (Posts t body made found) (sym s.is) (post_key s.front s.key t body made found)

post_at : (t body made : Tree) (path : Path) (found : Option Tree) → edit t Post path (Some body) ≡ Ok made → look t path ≡ Ok found → look made path ≡ Ok (Some (posted body (out-Tree (or_null found))))
post_at t body made path found h l =
    let by = made_by t Post path (Some body) made h in
    let there = looked t path found l in
    look_is made path there.0 ∙ post_parts path.parts t body made found there.0 by.1 there.1

pub post_appends : (t body made : Tree) (path : Path) (items : List Tree) → edit t Post path (Some body) ≡ Ok made → look t path ≡ Ok (Some (Items items)) → look made path ≡ Ok (Some (Items (items ++ body ∷ [])))
post_appends t body made path items h l = post_at t body made path (Some (Items items)) h l ∙ ap (λ x. Ok (Some (posted body x))) (outs-Items items)

no_list : (body v : Tree) (x : Tree-F Tree Member) → out-Tree v ≡ x → ((items : List Tree) → v ≡ Items items → ⊥) → posted body x ≡ body
no_list body v (Tree-F.Items items) e never = absurd (never items (sym (roll-out-Tree v) ∙ ap roll-Tree e ∙ rolls-Items items))
no_list body v _ e never = refl

never_null : (found : Option Tree) → ((items : List Tree) → found ≡ Some (Items items) → ⊥) → (items : List Tree) → or_null found ≡ Items items → ⊥
never_null (Some v) never items e = never items (ap Some e)
never_null None never items e = let no : Tree-F.Null ≡ Tree-F.Items items = sym outs-Null ∙ ap out-Tree e ∙ outs-Items items in cc

pub post_sets : (t body made : Tree) (path : Path) (found : Option Tree) → edit t Post path (Some body) ≡ Ok made → look t path ≡ Ok found → ((items : List Tree) → found ≢ Some (Items items)) → look made path ≡ Ok (Some body)
post_sets t body made path found h l never =
    post_at t body made path found h l ∙ ap (λ b. Ok (Some b)) (no_list body (or_null found) (out-Tree (or_null found)) refl (never_null found (λ items e. never items e)))

pub post_all_appends : (t made : Tree) (path : Path) (items more : List Tree) → edit t Post (path ▸ ellipsis) (Some (Items more)) ≡ Ok made → look t path ≡ Ok (Some (Items items)) → look made path ≡ Ok (Some (Items (items ++ more)))
post_all_appends t made path items more h l =
    let by = made_by t Post (path ▸ ellipsis) (Some (Items more)) made h in
    let there = looked t path (Some (Items items)) l in
    let w = from_ok (Within Post (Items more) path.parts ellipsis (Items items)) (change Post (Items more) (path.parts ++ ellipsis ∷ []) t) made by.1
    (through Post (Items more) (λ v. refl) path.parts ellipsis t (Items items) (ap (λ r. r ▷ λ v. Ok (or_null v)) there.1)) in
    let same = same_ok (Items (items ++ more)) w.inner (sym (ap (ellipsis_edit (Items more)) (outs-Items items) ∙ ap (all_posted items) (outs-Items more)) ∙ w.is) in
    look_is made path there.0 ∙ w.there ∙ ap (λ v. Ok (Some v)) (sym same)

-- ---- DELETE

key_delete : (b : Tree) (old value : Option Tree) → key_edit Delete b old ≡ Ok value → value ≡ None
key_delete b (Some old) value h = cc
key_delete b None value h = cc

delete_last : (b : Tree) (key : List ℕ) (ms : List Member) (inner : Tree) → last_edit Delete b key (Tree-F.Object ms) ≡ Ok inner → child key inner ≡ Ok None
delete_last b key ms inner h =
    let c = chained (key_edit Delete b (member_at key ms)) (λ value. Ok (Object (with_member key value ms))) inner h in
    let same = same_ok (Object (with_member key c.0 ms)) inner c.2 in
    ap (child key) (sym same) ∙ child-Object key (with_member key c.0 ms) ∙ ap (λ o. Ok (member_at key (with_member key o ms))) (key_delete b (member_at key ms) c.0 c.1) ∙ ap Ok (member_at-with_member-none key ms)

pub delete_leaves_none : (t made : Tree) (path : Path) (key : List ℕ) (body : Option Tree) (ms : List Member) → edit t Delete (path ▸ key) body ≡ Ok made → look t path ≡ Ok (Some (Object ms)) → look made (path ▸ key) ≡ Ok None
delete_leaves_none t made path key body ms h l =
    let b = or_null body in
    let by = made_by t Delete (path ▸ key) body made h in
    let plain_all = and_true (ends_in_ellipsis (path.parts ++ key ∷ [])) by.0 in
    let there = looked t path (Some (Object ms)) l in
    let w = from_ok (Within Delete b path.parts key (Object ms)) (change Delete b (path.parts ++ key ∷ []) t) made by.1
    (through Delete b (λ v. refl) path.parts key t (Object ms) (ap (λ r. r ▷ λ v. Ok (or_null v)) there.1)) in
    let plain : bytes_eq key ellipsis ≡ false = sym (last_is path.parts key) ∙ plain_all in
    let last : last_edit Delete b key (Tree-F.Object ms) ≡ Ok w.inner =
    sym (ap (λ c. cond c (ellipsis_edit b (out-Tree (Object ms))) (last_edit Delete b key (out-Tree (Object ms)))) plain ∙ ap (last_edit Delete b key) (outs-Object ms)) ∙ w.is in
    look_is made (path ▸ key) plain_all ∙ walk_end path.parts key made ∙ ap (λ r. r ▷ λ v. child key (or_null v)) w.there ∙ delete_last b key ms w.inner last

root_deleted : (b : Tree) (old : Option Tree) (made : Tree) → (key_edit Delete b old ▷ λ value. Ok (or_null value)) ≡ Ok made → made ≡ Null
root_deleted b (Some old) made h = sym (same_ok Null made h)
root_deleted b None made h = cc

pub delete_leaves_null : (t made : Tree) (body : Option Tree) → edit t Delete (record { parts = [] }) body ≡ Ok made → made ≡ Null
delete_leaves_null t made body h = root_deleted (or_null body) (unless_null t) made (made_by t Delete (record { parts = [] }) body made h).1
