-- Two PUTs at absent keys of one object, in either order.
use Rattle.std.proofs.Common.{◌≡◌, ◌≢◌, ℕ, zero, suc, ◌<◌, ◌-◌, nat_lt, List, [], ◌∷◌, ◌++◌, length, get_or, set, slice_get, Option, Some, None, Result, Ok, Err, Bool, true, false, cond, ◌&&◌, not, inl, inr, refl, sym, ap, ◌∙◌, subst, arith, length-append}
use Rattle.std.specs.Prelude.{IsOk}
use Rattle.std.proofs.lemmas.Option.{slice_get_within, get_or_from_slice_get}
use Rattle.std.proofs.lemmas.Slice.Eq.{bytes_eq-Decides}
use Rattle.std.specs.Str.{bytes_eq}
use Rattle.cd_text.specs.Steps.{◌▷◌, refused_where}
use Rattle.cd_tree.specs.Path.{◌▸◌}
use Rattle.cd_tree.specs.Tree.{depth, text}
use Rattle.cd_tree.specs.declared.limits.TheConstants.{MAX_DEPTH, MAX_TEXT_BYTES}
use Rattle.cd_tree.specs.declared.path.Path.{Path}
use Rattle.cd_tree.specs.declared.tree.Member.{Member}
use Rattle.cd_tree.specs.declared.tree.Tree.{Tree, Null, Items, Object, out-Tree}
use Rattle.cd_tree.specs.declared.tree.Tree.TheOpen.{Tree-F}
use Rattle.cd_tree.specs.declared.tree.Tree.TheVariants.{outs-Items, outs-Object}
use Rattle.cd_tree.proofs.Outcomes.{chained}
use Rattle.cd_path.specs.Editing.{key_edit, last_edit, ellipsis_edit, entered, way_edit, change, within_limits, is_post}
use Rattle.cd_path.specs.Looking.{member_at, child_layer, child, or_null, walk, ellipsis, is_ellipsis, look, ends_in_ellipsis}
use Rattle.cd_path.specs.Members.{with_member}
use Rattle.cd_path.specs.Position.{position}
use Rattle.cd_path.specs.Puts.{put, IsNotTooLarge}
use Rattle.cd_path.specs.declared.fault.EditFault.{EditFault}
use Rattle.cd_path.specs.declared.fault.EditFault.TheVariants.{NotTraversable, NotAList, EllipsisVerb, ResultTooDeep, ResultTooLong}
use Rattle.cd_path.specs.declared.verb.Verb.{Verb}
use Rattle.cd_path.specs.declared.verb.Verb.TheVariants.{Put}
use Rattle.cd_path.proofs.Kept.{entered_same}
use Rattle.cd_path.proofs.SetMembers.{with_member-comm, with_member-twice, member_at-with_member-other, member_at-with_member-same}
use Rattle.cd_path.proofs.Steps.{place_is, element_found, get_set_same}

-- ---- a change at a path that goes on

pub change_way : (verb : Verb) (body : Tree) (part : List ℕ) (rest : List (List ℕ)) (key : List ℕ) (t : Tree) → change verb body (part ∷ (rest ++ key ∷ [])) t ≡ way_edit verb (change verb body (rest ++ key ∷ [])) part (out-Tree t)
change_way verb body part [] key t = refl
change_way verb body part (next ∷ rest) key t = refl

either_refuses : (b : Bool) (e f : EditFault) (made : Tree) → cond b (Err e) (Err f) ≡ Ok made → ⊥
either_refuses true e f made h = cc
either_refuses false e f made h = cc

-- null takes no change at a key
null_takes_none : (verb : Verb) (body : Tree) (rest : List (List ℕ)) (key : List ℕ) (t made : Tree) → out-Tree t ≡ Tree-F.Null → change verb body (rest ++ key ∷ []) t ≡ Ok made → ⊥
null_takes_none verb body [] key t made z h =
    either_refuses (bytes_eq key ellipsis) NotAList NotTraversable made (sym (ap (λ x. cond (bytes_eq key ellipsis) (ellipsis_edit body x) (last_edit verb body key x)) z) ∙ h)
null_takes_none verb body (part ∷ rest) key t made z h =
    let no : Err NotTraversable ≡ Ok made = sym (ap (way_edit verb (change verb body (rest ++ key ∷ [])) part) z) ∙ sym (change_way verb body part rest key t) ∙ h in cc

-- a member on the way
way_object : (edit_below : Tree → Result Tree EditFault) (part : List ℕ) (t : Tree) (ms : List Member) (value : Option Tree) (made : Tree) → out-Tree t ≡ Tree-F.Object ms → member_at part ms ≡ value → (out-Tree (or_null value) ≡ Tree-F.Null → ⊥)
    → edit_below (or_null value) ≡ Ok made → way_edit Put edit_below part (out-Tree t) ≡ Ok (Object (with_member part (Some made) ms))
way_object edit_below part t ms value made e m some h =
    let go : Tree → Result Tree EditFault = λ u. edit_below u ▷ λ new. Ok (Object (with_member part (Some new) ms)) in
    let same : entered Put value ≡ or_null value = elim (entered_same Put value) [ inl z ↦ absurd (some z) | inr s ↦ s ] in
    ap (way_edit Put edit_below part) e ∙ ap (λ v. go (entered Put v)) m ∙ ap go same ∙ ap (λ r. r ▷ λ new. Ok (Object (with_member part (Some new) ms))) h

-- an element on the way
way_items : (edit_below : Tree → Result Tree EditFault) (part : List ℕ) (t : Tree) (xs : List Tree) (n : ℕ) (value made : Tree) → out-Tree t ≡ Tree-F.Items xs → position part ≡ Some n → slice_get xs n ≡ Some value
    → edit_below value ≡ Ok made → way_edit Put edit_below part (out-Tree t) ≡ Ok (Items (set xs n made))
way_items edit_below part t xs n value made e p g h =
    let go : ℕ → Tree → Result Tree EditFault = λ k u. edit_below u ▷ λ new. Ok (Items (set xs k new)) in
    ap (way_edit Put edit_below part) e ∙ ap (λ r. r ▷ λ k. go k (get_or xs k Null)) (place_is (length xs) n part p (slice_get_within xs n value g))
    ∙ ap (go n) (get_or_from_slice_get xs n value Null g) ∙ ap (λ r. r ▷ λ new. Ok (Items (set xs n new))) h

set_twice : (xs : List Tree) (n : ℕ) (a b : Tree) → set (set xs n a) n b ≡ set xs n b
set_twice [] n a b = refl
set_twice (x ∷ xs) zero a b = refl
set_twice (x ∷ xs) (suc n) a b = ap (λ r. x ∷ r) (set_twice xs n a b)

-- ---- walks to a key

at_end : (r : Result (Option Tree) EditFault) (found : Option Tree) → (r ▷ walk []) ≡ Ok found → r ≡ Ok found
at_end (Ok v) found h = h
at_end (Err e) found h = cc

-- an absent value on the way is looked at as null
from_value : (value : Option Tree) (rest : List (List ℕ)) (key : List ℕ) (found : Option Tree) → walk (rest ++ key ∷ []) value ≡ Ok found → walk (rest ++ key ∷ []) (Some (or_null value)) ≡ Ok found
from_value (Some v) rest key found h = h
from_value None [] key found h = h
from_value None (part ∷ rest) key found h = h

-- ---- either order

-- two PUTs behind a path, in both orders
record Square (rest : List (List ℕ)) (one two : List ℕ) (a b t : Tree) : Type 0 where
  pub with_one : Tree
  pub with_two : Tree
  pub both : Tree
  pub one_first : change Put a (rest ++ one ∷ []) t ≡ Ok with_one
  pub two_then : change Put b (rest ++ two ∷ []) with_one ≡ Ok both
  pub two_first : change Put b (rest ++ two ∷ []) t ≡ Ok with_two
  pub one_then : change Put a (rest ++ one ∷ []) with_two ≡ Ok both

-- a PUT at an absent key of an object
pub put_key : (key : List ℕ) (body t : Tree) (ms : List Member) → bytes_eq key ellipsis ≡ false → out-Tree t ≡ Tree-F.Object ms → member_at key ms ≡ None → change Put body (key ∷ []) t ≡ Ok (Object (with_member key (Some body) ms))
put_key key body t ms d e m =
    ap (λ b. cond b (ellipsis_edit body (out-Tree t)) (last_edit Put body key (out-Tree t))) d ∙ ap (last_edit Put body key) e
    ∙ ap (λ v. key_edit Put body v ▷ λ value. Ok (Object (with_member key value ms))) m

differ : (one two : List ℕ) → one ≢ two → bytes_eq one two ≡ false
differ one two d = by_test (bytes_eq one two) refl where
  by_test : (b : Bool) → bytes_eq one two ≡ b → bytes_eq one two ≡ false
  by_test true e = absurd (d ((bytes_eq-Decides one two).0 e))
  by_test false e = e

module _ (one two : List ℕ) (a b : Tree) (apart : one ≢ two) (plain_one : bytes_eq one ellipsis ≡ false) (plain_two : bytes_eq two ellipsis ≡ false) where
  object_square : (t : Tree) (ms : List Member) → out-Tree t ≡ Tree-F.Object ms → member_at one ms ≡ None → member_at two ms ≡ None → Square [] one two a b t
  object_square t ms e m n =
      let with_one = with_member one (Some a) ms in
      let with_two = with_member two (Some b) ms in
      let still_two : member_at two with_one ≡ None = member_at-with_member-other one two (Some a) ms (differ one two apart) ∙ n in
      let still_one : member_at one with_two ≡ None = member_at-with_member-other two one (Some b) ms (differ two one (λ s. apart (sym s))) ∙ m in
      record {
        with_one = Object with_one;
        with_two = Object with_two;
        both = Object (with_member two (Some b) with_one);
        one_first = put_key one a t ms plain_one e m;
        two_then = put_key two b (Object with_one) with_one plain_two (outs-Object with_one) still_two;
        two_first = put_key two b t ms plain_two e n;
        one_then = put_key one a (Object with_two) with_two plain_one (outs-Object with_two) still_one ∙ ap (λ ns. Ok (Object ns)) (with_member-comm one two a b ms apart);
      }

  -- only an object has absent keys
  base : (t : Tree) (x : Tree-F Tree Member) → out-Tree t ≡ x → child_layer one x ≡ Ok None → child_layer two x ≡ Ok None → Square [] one two a b t
  base t (Tree-F.Object ms) e h k = object_square t ms e (let q : member_at one ms ≡ None = cc in q) (let q : member_at two ms ≡ None = cc in q)
  base t (Tree-F.Items xs) e h k = let f = element_found xs one None h in absurd (let no : None ≡ Some f.value = f.is in cc)
  base t _ e h k = absurd (let no : ⊥ = cc in no)

  object_step : (part : List ℕ) (rest : List (List ℕ)) (t : Tree) (ms : List Member) (value : Option Tree) → out-Tree t ≡ Tree-F.Object ms → member_at part ms ≡ value → Square rest one two a b (or_null value) → Square (part ∷ rest) one two a b t
  object_step part rest t ms value e m s =
      let with_one = with_member part (Some s.with_one) ms in
      let with_two = with_member part (Some s.with_two) ms in
      record {
        with_one = Object with_one;
        with_two = Object with_two;
        both = Object (with_member part (Some s.both) ms);
        one_first = change_way Put a part rest one t
            ∙ way_object (change Put a (rest ++ one ∷ [])) part t ms value s.with_one e m (λ z. null_takes_none Put a rest one (or_null value) s.with_one z s.one_first) s.one_first;
        two_then = change_way Put b part rest two (Object with_one)
            ∙ way_object (change Put b (rest ++ two ∷ [])) part (Object with_one) with_one (Some s.with_one) s.both (outs-Object with_one) (member_at-with_member-same part s.with_one ms)
            (λ z. null_takes_none Put b rest two s.with_one s.both z s.two_then) s.two_then
            ∙ ap (λ ns. Ok (Object ns)) (with_member-twice part s.with_one s.both ms);
        two_first = change_way Put b part rest two t
            ∙ way_object (change Put b (rest ++ two ∷ [])) part t ms value s.with_two e m (λ z. null_takes_none Put b rest two (or_null value) s.with_two z s.two_first) s.two_first;
        one_then = change_way Put a part rest one (Object with_two)
            ∙ way_object (change Put a (rest ++ one ∷ [])) part (Object with_two) with_two (Some s.with_two) s.both (outs-Object with_two) (member_at-with_member-same part s.with_two ms)
            (λ z. null_takes_none Put a rest one s.with_two s.both z s.one_then) s.one_then
            ∙ ap (λ ns. Ok (Object ns)) (with_member-twice part s.with_two s.both ms);
      }

  items_step : (part : List ℕ) (rest : List (List ℕ)) (t : Tree) (xs : List Tree) (n : ℕ) (value : Tree) → out-Tree t ≡ Tree-F.Items xs → position part ≡ Some n → slice_get xs n ≡ Some value → Square rest one two a b value → Square (part ∷ rest) one two a b t
  items_step part rest t xs n value e p g s =
      let with_one = set xs n s.with_one in
      let with_two = set xs n s.with_two in
      let within : n < length xs = slice_get_within xs n value g in
      record {
        with_one = Items with_one;
        with_two = Items with_two;
        both = Items (set xs n s.both);
        one_first = change_way Put a part rest one t ∙ way_items (change Put a (rest ++ one ∷ [])) part t xs n value s.with_one e p g s.one_first;
        two_then = change_way Put b part rest two (Items with_one)
            ∙ way_items (change Put b (rest ++ two ∷ [])) part (Items with_one) with_one n s.with_one s.both (outs-Items with_one) p (get_set_same xs s.with_one n within) s.two_then
            ∙ ap (λ ys. Ok (Items ys)) (set_twice xs n s.with_one s.both);
        two_first = change_way Put b part rest two t ∙ way_items (change Put b (rest ++ two ∷ [])) part t xs n value s.with_two e p g s.two_first;
        one_then = change_way Put a part rest one (Items with_two)
            ∙ way_items (change Put a (rest ++ one ∷ [])) part (Items with_two) with_two n s.with_two s.both (outs-Items with_two) p (get_set_same xs s.with_two n within) s.one_then
            ∙ ap (λ ys. Ok (Items ys)) (set_twice xs n s.with_two s.both);
      }

  step : (part : List ℕ) (rest : List (List ℕ)) (t : Tree) (x : Tree-F Tree Member) (found : Option Tree) → out-Tree t ≡ x → child_layer part x ≡ Ok found → Square rest one two a b (or_null found) → Square (part ∷ rest) one two a b t
  step part rest t (Tree-F.Object ms) found e h s = object_step part rest t ms found e (let q : member_at part ms ≡ found = cc in q) s
  step part rest t (Tree-F.Items xs) found e h s =
      let f = element_found xs part found h in
      items_step part rest t xs f.at f.value e f.names f.there (subst (Square rest one two a b) (ap or_null f.is) s)
  step part rest t _ found e h s = absurd (let no : ⊥ = cc in no)

  square : (rest : List (List ℕ)) (t : Tree) → walk (rest ++ one ∷ []) (Some t) ≡ Ok None → walk (rest ++ two ∷ []) (Some t) ≡ Ok None → Square rest one two a b t
  square [] t h k = base t (out-Tree t) refl (at_end (child one t) None h) (at_end (child two t) None k)
  square (part ∷ rest) t h k =
      let c = chained (child part t) (walk (rest ++ one ∷ [])) None h in
      let other : walk (rest ++ two ∷ []) c.0 ≡ Ok None = sym (ap (λ r. r ▷ walk (rest ++ two ∷ [])) c.1) ∙ k in
      step part rest t (out-Tree t) c.0 refl c.1 (square rest (or_null c.0) (from_value c.0 rest one None c.2) (from_value c.0 rest two None other))

-- ---- one PUT

-- a PUT behind a path gives a tree
record Taken (rest : List (List ℕ)) (key : List ℕ) (body t : Tree) : Type 0 where
  pub made : Tree
  pub is : change Put body (rest ++ key ∷ []) t ≡ Ok made

module _ (key : List ℕ) (body : Tree) (plain : bytes_eq key ellipsis ≡ false) where
  taken_base : (t : Tree) (x : Tree-F Tree Member) → out-Tree t ≡ x → child_layer key x ≡ Ok None → Taken [] key body t
  taken_base t (Tree-F.Object ms) e h = record { made = Object (with_member key (Some body) ms); is = put_key key body t ms plain e (let q : member_at key ms ≡ None = cc in q) }
  taken_base t (Tree-F.Items xs) e h = let f = element_found xs key None h in absurd (let no : None ≡ Some f.value = f.is in cc)
  taken_base t _ e h = absurd (let no : ⊥ = cc in no)

  taken_step : (part : List ℕ) (rest : List (List ℕ)) (t : Tree) (x : Tree-F Tree Member) (found : Option Tree) → out-Tree t ≡ x → child_layer part x ≡ Ok found → Taken rest key body (or_null found) → Taken (part ∷ rest) key body t
  taken_step part rest t (Tree-F.Object ms) found e h s = record {
    made = Object (with_member part (Some s.made) ms);
    is = change_way Put body part rest key t
        ∙ way_object (change Put body (rest ++ key ∷ [])) part t ms found s.made e (let q : member_at part ms ≡ found = cc in q) (λ z. null_takes_none Put body rest key (or_null found) s.made z s.is) s.is;
  }
  taken_step part rest t (Tree-F.Items xs) found e h s =
      let f = element_found xs part found h in
      let v : Taken rest key body f.value = subst (Taken rest key body) (ap or_null f.is) s in
      record {
        made = Items (set xs f.at v.made);
        is = change_way Put body part rest key t ∙ way_items (change Put body (rest ++ key ∷ [])) part t xs f.at f.value v.made e f.names f.there v.is;
      }
  taken_step part rest t _ found e h s = absurd (let no : ⊥ = cc in no)

  taken : (rest : List (List ℕ)) (t : Tree) → walk (rest ++ key ∷ []) (Some t) ≡ Ok None → Taken rest key body t
  taken [] t h = taken_base t (out-Tree t) refl (at_end (child key t) None h)
  taken (part ∷ rest) t h =
      let c = chained (child part t) (walk (rest ++ key ∷ [])) None h in
      taken_step part rest t (out-Tree t) c.0 refl c.1 (taken rest (or_null c.0) (from_value c.0 rest key None c.2))

-- ---- the whole

get_end : (parts : List (List ℕ)) (key : List ℕ) → slice_get (parts ++ key ∷ []) (length parts) ≡ Some key
get_end [] key = refl
get_end (part ∷ parts) key = get_end parts key

pub last_is : (parts : List (List ℕ)) (key : List ℕ) → ends_in_ellipsis (parts ++ key ∷ []) ≡ bytes_eq key ellipsis
last_is parts key =
    let n : length (parts ++ key ∷ []) - 1 ≡ length parts = omega (arith, length-append parts (key ∷ [])) in
    ap (λ k. is_ellipsis (slice_get (parts ++ key ∷ []) k)) n ∙ ap is_ellipsis (get_end parts key)

looked : (b : Bool) (r : Result (Option Tree) EditFault) (found : Option Tree) → (refused_where b EllipsisVerb ▷ λ _. r) ≡ Ok found → (b ≡ false) × (r ≡ Ok found)
looked true r found h = cc
looked false r found h = (refl, h)

-- what `look` says of an absent key
absent : (t : Tree) (path : Path) (key : List ℕ) → look t (path ▸ key) ≡ Ok None → (ends_in_ellipsis (path.parts ++ key ∷ []) ≡ false) × (walk (path.parts ++ key ∷ []) (Some t) ≡ Ok None)
absent t path key h = looked (ends_in_ellipsis (path.parts ++ key ∷ [])) (walk (path.parts ++ key ∷ []) (Some t)) None h

put_is : (t body made : Tree) (path : Path) (key : List ℕ) → ends_in_ellipsis (path.parts ++ key ∷ []) ≡ false → change Put body (path.parts ++ key ∷ []) t ≡ Ok made → put (path ▸ key) body t ≡ within_limits made
put_is t body made path key e h =
    ap (λ b. refused_where (b && not (is_post Put)) EllipsisVerb ▷ λ _. change Put body (path.parts ++ key ∷ []) t ▷ λ m. within_limits m) e ∙ ap (λ r. r ▷ λ m. within_limits m) h

fits : (a b : Bool) (made : Tree) → IsNotTooLarge (refused_where a ResultTooDeep ▷ λ _. refused_where b ResultTooLong ▷ λ _. Ok made) → (refused_where a ResultTooDeep ▷ λ _. refused_where b ResultTooLong ▷ λ _. Ok made) ≡ Ok made
fits true b made h = absurd (h.0 refl)
fits false true made h = absurd (h.1 refl)
fits false false made h = refl

put_ok : (t body made : Tree) (path : Path) (key : List ℕ) → ends_in_ellipsis (path.parts ++ key ∷ []) ≡ false → change Put body (path.parts ++ key ∷ []) t ≡ Ok made → IsNotTooLarge (put (path ▸ key) body t) → put (path ▸ key) body t ≡ Ok made
put_ok t body made path key e h small =
    let is = put_is t body made path key e h in
    is ∙ fits (nat_lt MAX_DEPTH (depth made)) (nat_lt MAX_TEXT_BYTES (length (text made))) made (subst IsNotTooLarge is small)

plain_key : (path : Path) (key : List ℕ) → ends_in_ellipsis (path.parts ++ key ∷ []) ≡ false → bytes_eq key ellipsis ≡ false
plain_key path key e = sym (last_is path.parts key) ∙ e

-- a PUT at an absent key is refused for its size alone
pub absent_taken : (t body : Tree) (path : Path) (key : List ℕ) → look t (path ▸ key) ≡ Ok None → IsNotTooLarge (put (path ▸ key) body t) → IsOk (put (path ▸ key) body t)
absent_taken t body path key h small =
    let at = absent t path key h in
    let s = taken key body (plain_key path key at.0) path.parts t at.1 in
    subst IsOk (sym (put_ok t body s.made path key at.0 s.is small)) refl

-- two PUTs at different absent keys commute
pub commute : (t a b : Tree) (path : Path) (one two : List ℕ) → one ≢ two → look t (path ▸ one) ≡ Ok None → look t (path ▸ two) ≡ Ok None → IsNotTooLarge (put (path ▸ one) a t) → IsNotTooLarge (put (path ▸ two) b t)
    → (put (path ▸ one) a t ▷ put (path ▸ two) b) ≡ (put (path ▸ two) b t ▷ put (path ▸ one) a)
commute t a b path one two apart h k small_one small_two =
    let at_one = absent t path one h in
    let at_two = absent t path two k in
    let s = square one two a b apart (plain_key path one at_one.0) (plain_key path two at_two.0) path.parts t at_one.1 at_two.1 in
    let left : (put (path ▸ one) a t ▷ put (path ▸ two) b) ≡ within_limits s.both =
    ap (λ r. r ▷ put (path ▸ two) b) (put_ok t a s.with_one path one at_one.0 s.one_first small_one) ∙ put_is s.with_one b s.both path two at_two.0 s.two_then in
    let right : (put (path ▸ two) b t ▷ put (path ▸ one) a) ≡ within_limits s.both =
    ap (λ r. r ▷ put (path ▸ one) a) (put_ok t b s.with_two path two at_two.0 s.two_first small_two) ∙ put_is s.with_two a s.both path one at_one.0 s.one_then in
    left ∙ sym right
