-- What a text reads as has rising keys, and its whole numbers are in range.
use Rattle.std.proofs.Common.{◌≡◌, ℕ, zero, suc, ◌<◌, ◌≤◌, ◌^◌, pos, List, [], ◌∷◌, map, Bool, true, false, ◌&&◌, nat_lt, nat_le, Option, Some, None, option_map, option_and_then, Ok, Ordering, Less, Equal, Greater, refl, sym, ap, ◌∙◌, subst, arith}
use Rattle.std.specs.Prelude.{⊤, ◌==◌, drop, slice_index, if◌then◌else◌, Float}
use Rattle.std.specs.Float.{binary64, float_is_finite}
use Rattle.std.specs.List.{list_all}
use Rattle.std.proofs.lemmas.Bool.{and_parts, ltb-true, leb-true, lt-ltb, le-leb}
use Rattle.std.proofs.lemmas.Cmp.{nat_list_cmp_total}
use Rattle.std.specs.Ordering.{nat_cmp, match_ordering, ordering_reverse, is_lt}
use Rattle.std.specs.Cmp.Lexicographic.{slice_cmp}
use Rattle.fast_float.specs.Text.{minus, Parts, scan, digits_of, nearest, with_sign}
use Rattle.json.specs.Json as raw
use Rattle.json.specs.Lex as lex
use Rattle.serde_json.specs.Data as json
use Rattle.serde_json.specs.Read.{is_integer, float_of, number_from, number_of, of_json, of_items as items_of_json, of_members as members_of_json, read, max_depth}
use Rattle.cd_text.specs.Steps.{◌▷◌}
use Rattle.cd_tree.specs.Tree.{is_ordered, ordered_member, keys_rise, is_below, is_number}
use Rattle.cd_tree.specs.Reading.{num_of, of_number, of_reading, of_items, of_members}
use Rattle.cd_tree.specs.declared.tree.Member.{Member, roll-Member}
use Rattle.cd_tree.specs.declared.tree.Tree as tree
use Rattle.cd_tree.specs.declared.tree.Tree.{Tree, Null, Items, Object}
use Rattle.cd_tree.proofs.Inside.{both}
use Rattle.cd_tree.proofs.Outcomes.{chained}
use Rattle.cd_tree.proofs.Trees.{value_ordered, list_ordered, object_ordered, null_ordered, is_ordered-Bool, is_ordered-Num, is_ordered-Text, ordered_member-roll, value_ordered-roll}

-- the key is below each of the members'
abbrev pub IsBelow : List ℕ → json.Members → Type 0
IsBelow k json.no_members = ⊤
IsBelow k (json.member l d ms) = (slice_cmp nat_cmp k l ≡ Less) × IsBelow k ms

-- a whole number is in range, and a negative one is below zero
abbrev pub IsInRange : json.Num → Type 0
IsInRange (json.unsigned n) = is_number (num_of (pos n)) ≡ true
IsInRange (json.negative z) = is_number (num_of z) ≡ true
IsInRange (json.float x) = ⊤

abbrev mutual
  pub Rises : json.Data → Type 0
  Rises json.null = ⊤
  Rises (json.boolean b) = ⊤
  Rises (json.number n) = IsInRange n
  Rises (json.string s) = ⊤
  Rises (json.array ds) = AllRise ds
  Rises (json.object ms) = KeysRise ms

  pub AllRise : json.Items → Type 0
  AllRise json.no_items = ⊤
  AllRise (json.item d ds) = Rises d × AllRise ds

  pub KeysRise : json.Members → Type 0
  KeysRise json.no_members = ⊤
  KeysRise (json.member k d ms) = Rises d × IsBelow k ms × KeysRise ms

pub mapped : {A B : Type 0} (f : A → B) (o : Option A) (b : B) → option_map f o ≡ Some b → (a : A) × (o ≡ Some a) × (f a ≡ b)
mapped f None b e = absurd (let no : ⊥ = cc in no)
mapped f (Some a) b e = (a, refl, cc)

pub and_then : {A B : Type 0} (f : A → Option B) (o : Option A) (b : B) → option_and_then f o ≡ Some b → (a : A) × (o ≡ Some a) × (f a ≡ Some b)
and_then f None b e = absurd (let no : ⊥ = cc in no)
and_then f (Some a) b e = (a, refl, e)

-- ---- putting a member keeps the order

pub reversed : (k l : List ℕ) → slice_cmp nat_cmp k l ≡ Greater → slice_cmp nat_cmp l k ≡ Less
reversed k l e = nat_list_cmp_total.antisymm l k ∙ ap ordering_reverse e

below_all : (k l : List ℕ) (ms : json.Members) → slice_cmp nat_cmp k l ≡ Less → IsBelow l ms → IsBelow k ms
below_all k l json.no_members e h = tt
below_all k l (json.member m d ms) e h = (nat_list_cmp_total.trans k l m e h.0, below_all k l ms e h.1)

below_put_at : (o : Ordering) (q k l : List ℕ) (d e : json.Data) (ms : json.Members) → slice_cmp nat_cmp q k ≡ Less → slice_cmp nat_cmp q l ≡ Less → IsBelow q ms → IsBelow q (json.put k d ms)
    → IsBelow q (match_ordering o (json.member k d (json.member l e ms)) (json.member l d ms) (json.member l e (json.put k d ms)))
below_put_at Less q k l d e ms a b h later = (a, (b, h))
below_put_at Equal q k l d e ms a b h later = (b, h)
below_put_at Greater q k l d e ms a b h later = (b, later)

below_put : (q k : List ℕ) (d : json.Data) (ms : json.Members) → slice_cmp nat_cmp q k ≡ Less → IsBelow q ms → IsBelow q (json.put k d ms)
below_put q k d json.no_members a h = (a, tt)
below_put q k d (json.member l e ms) a h = below_put_at (slice_cmp nat_cmp k l) q k l d e ms a h.0 h.1 (below_put q k d ms a h.1)

rise_put_at : (o : Ordering) (k l : List ℕ) (d e : json.Data) (ms : json.Members) → slice_cmp nat_cmp k l ≡ o → Rises d → Rises e → IsBelow l ms → KeysRise ms → KeysRise (json.put k d ms)
    → KeysRise (match_ordering o (json.member k d (json.member l e ms)) (json.member l d ms) (json.member l e (json.put k d ms)))
rise_put_at Less k l d e ms is x y h r later = (x, (is, below_all k l ms is h), (y, h, r))
rise_put_at Equal k l d e ms is x y h r later = (x, h, r)
rise_put_at Greater k l d e ms is x y h r later = (y, below_put l k d ms (reversed k l is) h, later)

pub rise_put : (k : List ℕ) (d : json.Data) (ms : json.Members) → Rises d → KeysRise ms → KeysRise (json.put k d ms)
rise_put k d json.no_members x r = (x, tt, tt)
rise_put k d (json.member l e ms) x r = rise_put_at (slice_cmp nat_cmp k l) k l d e ms refl x r.0 r.1 r.2 (rise_put k d ms x r.2)

-- ---- numbers

negative_in_range : (n : ℕ) → 0 < n → n ≤ 2 ^ 63 → is_number (num_of (with_sign true n)) ≡ true
negative_in_range zero some low = absurd (omega arith)
negative_in_range (suc n) some low = rw (lt-ltb 0 (suc n) some, le-leb (suc n) (2 ^ 63) low)

float_at : (finite : Bool) (x : Float) (n : json.Num) → (if finite then Some (json.float x) else None) ≡ Some n → IsInRange n
float_at true x n e = let is : json.float x ≡ n = cc in subst IsInRange is tt
float_at false x n e = absurd (let no : ⊥ = cc in no)

float_in_range : (s : Bool) (p : Parts) (n : json.Num) → float_of s p ≡ Some n → IsInRange n
float_in_range s p n e = float_at (float_is_finite (nearest binary64 s p)) (nearest binary64 s p) n e

unsigned_at : (whole : Bool) (p : Parts) (n : json.Num) → (is_integer p && nat_lt (digits_of p) (2 ^ 64)) ≡ whole → (if whole then Some (json.unsigned (digits_of p)) else float_of false p) ≡ Some n → IsInRange n
unsigned_at true p n h e = let is : json.unsigned (digits_of p) ≡ n = cc in subst IsInRange is (and_parts (is_integer p) (nat_lt (digits_of p) (2 ^ 64)) h).1
unsigned_at false p n h e = float_in_range false p n e

negative_at : (whole : Bool) (p : Parts) (n : json.Num) → (is_integer p && nat_lt 0 (digits_of p) && nat_le (digits_of p) (2 ^ 63)) ≡ whole
    → (if whole then Some (json.negative (with_sign true (digits_of p))) else float_of true p) ≡ Some n → IsInRange n
negative_at true p n h e =
    let is : json.negative (with_sign true (digits_of p)) ≡ n = cc in
    let parts = and_parts (is_integer p && nat_lt 0 (digits_of p)) (nat_le (digits_of p) (2 ^ 63)) h in
    let some = (and_parts (is_integer p) (nat_lt 0 (digits_of p)) parts.0).1 in
    subst IsInRange is (negative_in_range (digits_of p) (ltb-true 0 (digits_of p) some) (leb-true (digits_of p) (2 ^ 63) parts.1))
negative_at false p n h e = float_in_range true p n e

read_in_range : (s : Bool) (p : Parts) (n : json.Num) → number_from s p ≡ Some n → IsInRange n
read_in_range false p n e = unsigned_at (is_integer p && nat_lt (digits_of p) (2 ^ 64)) p n refl e
read_in_range true p n e = negative_at (is_integer p && nat_lt 0 (digits_of p) && nat_le (digits_of p) (2 ^ 63)) p n refl e

signed_in_range : (signed : Bool) (s : List ℕ) (n : json.Num) → (if signed then number_from true (scan (drop 1 s)) else number_from false (scan s)) ≡ Some n → IsInRange n
signed_in_range true s n e = read_in_range true (scan (drop 1 s)) n e
signed_in_range false s n e = read_in_range false (scan s) n e

number_in_range : (s : List ℕ) (n : json.Num) → number_of s ≡ Some n → IsInRange n
unfolding number_of
number_in_range s n e = signed_in_range (slice_index s 0 == minus) s n e

-- ---- what is read rises

mutual
  pub json_rises : (j : raw.Json) (d : json.Data) → of_json j ≡ Some d → Rises d
  json_rises raw.null d e = let is : json.null ≡ d = cc in subst Rises is tt
  json_rises (raw.boolean b) d e = let is : json.boolean b ≡ d = cc in subst Rises is tt
  json_rises (raw.number s) d e = let m = mapped json.number (number_of s) d e in subst Rises m.2 (number_in_range s m.0 m.1)
  json_rises (raw.string s) d e = let is : json.string s ≡ d = cc in subst Rises is tt
  json_rises (raw.array js) d e = let m = mapped json.array (items_of_json js) d e in subst Rises m.2 (items_rise js m.0 m.1)
  json_rises (raw.object ms) d e =
      let m = mapped json.object (members_of_json ms json.no_members) d e in
      subst Rises m.2 (members_rise ms json.no_members m.0 tt m.1)

  items_rise : (js : raw.Items) (ds : json.Items) → items_of_json js ≡ Some ds → AllRise ds
  items_rise raw.no_items ds e = let is : json.no_items ≡ ds = cc in subst AllRise is tt
  items_rise (raw.item j js) ds e =
      let c = and_then (λ d. option_map (json.item d) (items_of_json js)) (of_json j) ds e in
      let m = mapped (json.item c.0) (items_of_json js) ds c.2 in
      subst AllRise m.2 (json_rises j c.0 c.1, items_rise js m.0 m.1)

  members_rise : (ms : raw.Members) (found ds : json.Members) → KeysRise found → members_of_json ms found ≡ Some ds → KeysRise ds
  members_rise raw.no_members found ds r e = let is : found ≡ ds = cc in subst KeysRise is r
  members_rise (raw.member k j ms) found ds r e =
      let c = and_then (λ d. members_of_json ms (json.put k d found)) (of_json j) ds e in
      members_rise ms (json.put k c.0 found) ds (rise_put k c.0 found (json_rises j c.0 c.1) r) c.2

pub read_rises : (b : List ℕ) (d : json.Data) → read b ≡ Some d → Rises d
read_rises b d e =
    let c = and_then of_json (option_and_then (λ p. raw.if_last p.0 p.1) (raw.value max_depth (lex.tokens b))) d e in
    json_rises c.0 d c.2

-- ---- and so does its tree

pub below_members : (k : List ℕ) (ds : json.Members) (ms : List Member) → of_members ds ≡ Ok ms → IsBelow k ds → list_all (λ later. is_below k later.0) (map ordered_member ms) ≡ true
below_members k json.no_members ms e h = let is : [] ≡ ms = cc in ap (λ us. list_all (λ later. is_below k later.0) (map ordered_member us)) (sym is)
below_members k (json.member l d ds) ms e h =
    let c = chained (of_reading d) (λ value. of_members ds ▷ λ rest. Ok (roll-Member (record { key = l; value = value }) ∷ rest)) ms e in
    let m = roll-Member (record { key = l; value = c.0 }) in
    let r = chained (of_members ds) (λ rest. Ok (m ∷ rest)) ms c.2 in
    let is : m ∷ r.0 ≡ ms = let q = r.2 in cc in
    let here : is_below k (ordered_member m).0 ≡ true = ap (λ p. is_below k p.0) (ordered_member-roll l c.0) ∙ ap is_lt h.0 in
    ap (λ us. list_all (λ later. is_below k later.0) (map ordered_member us)) (sym is) ∙ both _ _ here (below_members k ds r.0 r.1 h.1)

number_ordered : (n : json.Num) (t : Tree) → (of_number n ▷ λ x. Ok (tree.Num x)) ≡ Ok t → IsInRange n → is_ordered t ≡ true
number_ordered (json.unsigned n) t e h = let is : tree.Num (num_of (pos n)) ≡ t = cc in ap is_ordered (sym is) ∙ is_ordered-Num (num_of (pos n)) ∙ h
number_ordered (json.negative z) t e h = let is : tree.Num (num_of z) ≡ t = cc in ap is_ordered (sym is) ∙ is_ordered-Num (num_of z) ∙ h
number_ordered (json.float x) t e h = absurd (let no : ⊥ = cc in no)

mutual
  pub tree_ordered : (d : json.Data) (t : Tree) → of_reading d ≡ Ok t → Rises d → is_ordered t ≡ true
  tree_ordered json.null t e h = let is : Null ≡ t = cc in ap is_ordered (sym is) ∙ null_ordered
  tree_ordered (json.boolean b) t e h = let is : tree.Bool b ≡ t = cc in ap is_ordered (sym is) ∙ is_ordered-Bool b
  tree_ordered (json.number n) t e h = number_ordered n t e h
  tree_ordered (json.string s) t e h = let is : tree.Text s ≡ t = cc in ap is_ordered (sym is) ∙ is_ordered-Text s
  tree_ordered (json.array ds) t e h =
      let c = chained (of_items ds) (λ items. Ok (Items items)) t e in
      let is : Items c.0 ≡ t = let q = c.2 in cc in
      ap is_ordered (sym is) ∙ list_ordered c.0 ∙ items_ordered ds c.0 c.1 h
  tree_ordered (json.object ds) t e h =
      let c = chained (of_members ds) (λ members. Ok (Object members)) t e in
      let is : Object c.0 ≡ t = let q = c.2 in cc in
      let m = members_ordered ds c.0 c.1 h in
      ap is_ordered (sym is) ∙ object_ordered c.0 ∙ both _ _ m.0 m.1

  items_ordered : (ds : json.Items) (ts : List Tree) → of_items ds ≡ Ok ts → AllRise ds → list_all is_ordered ts ≡ true
  items_ordered json.no_items ts e h = let is : [] ≡ ts = cc in ap (list_all is_ordered) (sym is)
  items_ordered (json.item d ds) ts e h =
      let c = chained (of_reading d) (λ first. of_items ds ▷ λ rest. Ok (first ∷ rest)) ts e in
      let r = chained (of_items ds) (λ rest. Ok (c.0 ∷ rest)) ts c.2 in
      let is : c.0 ∷ r.0 ≡ ts = let q = r.2 in cc in
      ap (list_all is_ordered) (sym is) ∙ both _ _ (tree_ordered d c.0 c.1 h.0) (items_ordered ds r.0 r.1 h.1)

  members_ordered : (ds : json.Members) (ms : List Member) → of_members ds ≡ Ok ms → KeysRise ds → (keys_rise (map ordered_member ms) ≡ true) × (list_all value_ordered ms ≡ true)
  members_ordered json.no_members ms e h = let is : [] ≡ ms = cc in (ap (λ us. keys_rise (map ordered_member us)) (sym is), ap (list_all value_ordered) (sym is))
  members_ordered (json.member k d ds) ms e h =
      let c = chained (of_reading d) (λ value. of_members ds ▷ λ rest. Ok (roll-Member (record { key = k; value = value }) ∷ rest)) ms e in
      let m = roll-Member (record { key = k; value = c.0 }) in
      let r = chained (of_members ds) (λ rest. Ok (m ∷ rest)) ms c.2 in
      let is : m ∷ r.0 ≡ ms = let q = r.2 in cc in
      let later = members_ordered ds r.0 r.1 h.2 in
      let below = ap (λ p. list_all (λ later. is_below p.0 later.0) (map ordered_member r.0)) (ordered_member-roll k c.0) ∙ below_members k ds r.0 r.1 h.1 in (
        ap (λ us. keys_rise (map ordered_member us)) (sym is) ∙ both _ _ below later.0,
        ap (list_all value_ordered) (sym is) ∙ both _ _ (value_ordered-roll k c.0 ∙ tree_ordered d c.0 c.1 h.0) later.1,
      )
