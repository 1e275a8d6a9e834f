-- What is read with marks, and what it says of the text.
use Rattle.std.proofs.Common.{◌≡◌, ℕ, suc, ◌<◌, ◌≤◌, ◌-◌, pos, negsuc, List, [], ◌∷◌, ◌++◌, map, length, max, Bool, true, false, ◌&&◌, Some, None, option_map, Result, Ok, Err, Ordering, Less, Equal, Greater, String, string_bytes, string_cmp, nat_cmp, Global, refl, sym, ap, ap₂, ◌∙◌, append_assoc, append-nil, arith, rules}
use Rattle.std.specs.Prelude.{◌==◌, not}
use Rattle.std.specs.List.{list_all}
use Rattle.std.specs.Ordering.{match_ordering}
use Rattle.std.specs.BTreeMap.{insert_entry}
use Rattle.std.specs.Cmp.Lexicographic.{slice_cmp}
use Rattle.json.specs.Json as raw
use Rattle.json.specs.Json.{parse_map, after_end_array, read_key}
use Rattle.json.specs.Lex.{tokens}
use Rattle.json.specs.Token as token
use Rattle.json.specs.Token.{Token}
use Rattle.json.proofs.Grammar.{value_is, value-begin_array, value-begin_object}
use Rattle.serde_json.specs.Data as json
use Rattle.serde_json.specs.Read.{number_of, of_json, of_items as items_of_json, of_members as members_of_json, converted, read, max_depth}
use Rattle.cd_text.specs.Steps.{◌▷◌}
use Rattle.cd_tree.specs.Marked.{marked_number, marked, marked_items, marked_members, is_marked, is_whole, member_whole, BeginsTree, BeginsItems, BeginsMembers, members_in, IsTextOf}
use Rattle.cd_tree.specs.Reading.{num_of, of_number, of_reading, of_items, of_members}
use Rattle.cd_tree.specs.Tree.{largest, depth, member_depth}
use Rattle.cd_tree.specs.declared.fault.TreeFault.{TreeFault}
use Rattle.cd_tree.specs.declared.fault.TreeFault.TheVariants.{FractionOrRange}
use Rattle.cd_tree.specs.declared.tree.Member.{Member, out-Member, roll-Member}
use Rattle.cd_tree.specs.declared.tree.Num.{Num}
use Rattle.cd_tree.specs.declared.tree.Tree as tree
use Rattle.cd_tree.specs.declared.tree.Tree.{Tree, Null, Items, Object, the_lemmas}
use Rattle.cd_tree.proofs.Rising.{mapped}
use Rattle.cd_tree.proofs.Turns.{unmapped, unchanged, twice, list_read, object_read, item_read, item_refused, items_over, member_read, member_refused, key_refused, members_over, whole_read, whole_and_more, whole_refused}
use Rattle.cd_tree.proofs.Trees.{depth-Null, depth-Bool, depth-Num, depth-Text, depth-Items, depth-Object, member_depth-roll, ordered_member-roll}

-- ---- depth

mutual
  -- a mark nests as the number that it stands for
  depth-marked : (d : json.Data) → depth (marked d) ≡ json.depth d
  depth-marked json.null = depth-Null
  depth-marked (json.boolean b) = depth-Bool b
  depth-marked (json.number n) = depth-Num (marked_number n)
  depth-marked (json.string s) = depth-Text s
  depth-marked (json.array ds) = depth-Items (marked_items ds) ∙ ap suc (items_depth-marked ds)
  depth-marked (json.object ds) = depth-Object (marked_members ds) ∙ ap suc (members_depth-marked ds)

  items_depth-marked : (ds : json.Items) → largest (map depth (marked_items ds)) ≡ json.items_depth ds
  items_depth-marked json.no_items = refl
  items_depth-marked (json.item d ds) = ap₂ max (depth-marked d) (items_depth-marked ds)

  members_depth-marked : (ds : json.Members) → largest (map member_depth (marked_members ds)) ≡ json.members_depth ds
  members_depth-marked json.no_members = refl
  members_depth-marked (json.member k d ds) = ap₂ max (member_depth-roll k (marked d) ∙ depth-marked d) (members_depth-marked ds)

-- ---- marks

whole-Null : is_whole Null ≡ true
whole-Null = search (rules, the_lemmas)

whole-Bool : (b : Bool) → is_whole (tree.Bool b) ≡ true
whole-Bool b = search (rules, the_lemmas)

whole-Num : (n : Num) → is_whole (tree.Num n) ≡ not (is_marked n)
whole-Num n = search (rules, the_lemmas)

whole-Text : (t : List ℕ) → is_whole (tree.Text t) ≡ true
whole-Text t = search (rules, the_lemmas)

pub whole-Items : (items : List Tree) → is_whole (Items items) ≡ list_all (λ b. b) (map is_whole items)
whole-Items items = search (rules, the_lemmas)

pub whole-Object : (members : List Member) → is_whole (Object members) ≡ list_all (λ b. b) (map member_whole members)
whole-Object members = search (rules, the_lemmas)

member_whole-roll : (k : List ℕ) (t : Tree) → member_whole (roll-Member (record { key = k; value = t })) ≡ is_whole t
member_whole-roll k t = search (rules, the_lemmas)

-- the value, where nothing in it is marked
abbrev unless_marked : {A : Type 0} → Bool → A → Result A TreeFault
unless_marked true a = Ok a
unless_marked false a = Err FractionOrRange

made : {A B : Type 0} (b : Bool) (f : A → B) (a : A) → (unless_marked b a ▷ λ x. Ok (f x)) ≡ unless_marked b (f a)
made true f a = refl
made false f a = refl

both_made : {A B C : Type 0} (b c : Bool) (f : A → B → C) (x : A) (y : B) → (unless_marked b x ▷ λ first. unless_marked c y ▷ λ rest. Ok (f first rest)) ≡ unless_marked (b && c) (f x y)
both_made true true f x y = refl
both_made true false f x y = refl
both_made false c f x y = refl

positive : (n : ℕ) → (suc n == 0) ≡ false
positive n = grind arith

number_made : (n : json.Num) → (of_number n ▷ λ number. Ok (tree.Num number)) ≡ unless_marked (not (is_marked (marked_number n))) (tree.Num (marked_number n))
number_made (json.unsigned n) = refl
number_made (json.negative (pos n)) = refl
number_made (json.negative (negsuc n)) = ap (λ b. unless_marked (not b) (tree.Num (num_of (negsuc n)))) (sym (positive n))
number_made (json.float x) = refl

mutual
  -- a reading has a tree exactly where nothing is marked, and it is that one
  tree-marked : (d : json.Data) → of_reading d ≡ unless_marked (is_whole (marked d)) (marked d)
  tree-marked json.null = ap (λ b. unless_marked b Null) (sym whole-Null)
  tree-marked (json.boolean b) = ap (λ w. unless_marked w (tree.Bool b)) (sym (whole-Bool b))
  tree-marked (json.number n) = number_made n ∙ ap (λ w. unless_marked w (tree.Num (marked_number n))) (sym (whole-Num (marked_number n)))
  tree-marked (json.string s) = ap (λ w. unless_marked w (tree.Text s)) (sym (whole-Text s))
  tree-marked (json.array ds) =
      ap (λ r. r ▷ λ items. Ok (Items items)) (items-marked ds) ∙ made (list_all (λ b. b) (map is_whole (marked_items ds))) Items (marked_items ds)
      ∙ ap (λ w. unless_marked w (Items (marked_items ds))) (sym (whole-Items (marked_items ds)))
  tree-marked (json.object ds) =
      ap (λ r. r ▷ λ members. Ok (Object members)) (members-marked ds) ∙ made (list_all (λ b. b) (map member_whole (marked_members ds))) Object (marked_members ds)
      ∙ ap (λ w. unless_marked w (Object (marked_members ds))) (sym (whole-Object (marked_members ds)))

  items-marked : (ds : json.Items) → of_items ds ≡ unless_marked (list_all (λ b. b) (map is_whole (marked_items ds))) (marked_items ds)
  items-marked json.no_items = refl
  items-marked (json.item d ds) =
      ap₂ (λ r s. r ▷ λ first. s ▷ λ rest. Ok (first ∷ rest)) (tree-marked d) (items-marked ds)
      ∙ both_made (is_whole (marked d)) (list_all (λ b. b) (map is_whole (marked_items ds))) (λ first rest. first ∷ rest) (marked d) (marked_items ds)

  members-marked : (ds : json.Members) → of_members ds ≡ unless_marked (list_all (λ b. b) (map member_whole (marked_members ds))) (marked_members ds)
  members-marked json.no_members = refl
  members-marked (json.member k d ds) =
      let later = list_all (λ b. b) (map member_whole (marked_members ds)) in
      ap₂ (λ r s. r ▷ λ value. s ▷ λ rest. Ok (roll-Member (record { key = k; value = value }) ∷ rest)) (tree-marked d) (members-marked ds)
      ∙ both_made (is_whole (marked d)) later (λ value rest. roll-Member (record { key = k; value = value }) ∷ rest) (marked d) (marked_members ds)
      ∙ ap (λ w. unless_marked (w && later) (marked_members (json.member k d ds))) (sym (member_whole-roll k (marked d)))

whole_tree : (d : json.Data) → is_whole (marked d) ≡ true → of_reading d ≡ Ok (marked d)
whole_tree d e = tree-marked d ∙ ap (λ b. unless_marked b (marked d)) e

no_whole_tree : (d : json.Data) → is_whole (marked d) ≡ false → of_reading d ≡ Err FractionOrRange
no_whole_tree d e = tree-marked d ∙ ap (λ b. unless_marked b (marked d)) e

-- ---- one more member

abbrev Entry : Type 0
Entry = String Global × Tree

abbrev named : List ℕ → Tree → Member
named k t = roll-Member (record { key = k; value = t })

abbrev put_member : List ℕ → Tree → List Member → List Member
put_member k t [] = named k t ∷ []
put_member k t (m ∷ ms) = match_ordering (slice_cmp nat_cmp k (out-Member m).key) (named k t ∷ m ∷ ms) (named (out-Member m).key t ∷ ms) (m ∷ put_member k t ms)

key-roll : (k : List ℕ) (t : Tree) → (out-Member (named k t)).key ≡ k
key-roll k t = ap (λ p. p.0) (ordered_member-roll k t)

marked_members-match : (o : Ordering) (a b c : json.Members) → marked_members (match_ordering o a b c) ≡ match_ordering o (marked_members a) (marked_members b) (marked_members c)
marked_members-match Less a b c = refl
marked_members-match Equal a b c = refl
marked_members-match Greater a b c = refl

members_in-match : (o : Ordering) (a b c : List Entry) → members_in (match_ordering o a b c) ≡ match_ordering o (members_in a) (members_in b) (members_in c)
members_in-match Less a b c = refl
members_in-match Equal a b c = refl
members_in-match Greater a b c = refl

-- the first key is compared as it stands in the member
at_first : (k l : List ℕ) (t u : Tree) (ms later : List Member) → later ≡ put_member k t ms
    → match_ordering (slice_cmp nat_cmp k l) (named k t ∷ named l u ∷ ms) (named l t ∷ ms) (named l u ∷ later) ≡ put_member k t (named l u ∷ ms)
at_first k l t u ms later is =
    ap (λ more. match_ordering (slice_cmp nat_cmp k l) (named k t ∷ named l u ∷ ms) (named l t ∷ ms) (named l u ∷ more)) is
    ∙ ap (λ q. match_ordering (slice_cmp nat_cmp k q) (named k t ∷ named l u ∷ ms) (named q t ∷ ms) (named l u ∷ put_member k t ms)) (sym (key-roll l u))

marked_members-put : (k : List ℕ) (d : json.Data) (ds : json.Members) → marked_members (json.put k d ds) ≡ put_member k (marked d) (marked_members ds)
marked_members-put k d json.no_members = refl
marked_members-put k d (json.member l e ds) =
    marked_members-match (slice_cmp nat_cmp k l) (json.member k d (json.member l e ds)) (json.member l d ds) (json.member l e (json.put k d ds))
    ∙ at_first k l (marked d) (marked e) (marked_members ds) (marked_members (json.put k d ds)) (marked_members-put k d ds)

members_in-insert : (k : String Global) (t : Tree) (es : List Entry) → members_in (insert_entry string_cmp es k t) ≡ put_member (string_bytes k) t (members_in es)
members_in-insert k t [] = refl
members_in-insert k t (e ∷ es) =
    members_in-match (string_cmp k e.0) ((k, t) ∷ e ∷ es) ((e.0, t) ∷ es) (e ∷ insert_entry string_cmp es k t)
    ∙ at_first (string_bytes k) (string_bytes e.0) t e.1 (members_in es) (members_in (insert_entry string_cmp es k t)) (members_in-insert k t es)

-- ---- items

-- what the items that are left go on with
pub record ItemsSoFar (levels n : ℕ) (old now : List Token) (found : List Tree) : Type 0 where
  pub before : json.Items → json.Items
  pub shows : (rest : json.Items) → marked_items (before rest) ≡ found ++ marked_items rest
  pub same : converted items_of_json (raw.items (raw.value levels) (length old) old) ≡ parse_map before (converted items_of_json (raw.items (raw.value levels) n now))

pub no_item_yet : (levels : ℕ) (old : List Token) → ItemsSoFar levels (length old) old old []
no_item_yet levels old = record { before = λ rest. rest; shows = λ rest. refl; same = unchanged _ }

pub one_item_more : (levels n : ℕ) (old now new : List Token) (found : List Tree) (t : Tree) → 0 < n → after_end_array now ≡ None → BeginsTree levels now new t → ItemsSoFar levels n old now found
    → ItemsSoFar levels (n - 1) old new (found ++ t ∷ [])
one_item_more levels n old now new found t some going one so = record {
  before = λ rest. so.before (json.item one.reading rest);
  shows = λ rest. so.shows (json.item one.reading rest) ∙ ap (λ u. found ++ u ∷ marked_items rest) one.shows ∙ sym (append_assoc found (t ∷ []) (marked_items rest));
  same = so.same ∙ ap (parse_map so.before) (item_read (raw.value levels) n now new one.reading some going one.begins) ∙ twice so.before (json.item one.reading) _;
}

pub all_items : (levels n : ℕ) (old now new : List Token) (found : List Tree) → length now ≤ n → after_end_array now ≡ Some new → ItemsSoFar levels n old now found → BeginsItems levels old new found
all_items levels n old now new found enough end so = record {
  readings = so.before json.no_items;
  begins = so.same ∙ ap (parse_map so.before) (items_over (raw.value levels) n now new enough end);
  shows = so.shows json.no_items ∙ append-nil found;
}

pub item_fails : (levels n : ℕ) (old now : List Token) (found : List Tree) → after_end_array now ≡ None → converted of_json (raw.value levels now) ≡ None → ItemsSoFar levels n old now found
    → converted items_of_json (raw.items (raw.value levels) (length old) old) ≡ None
item_fails levels n old now found going fails so = so.same ∙ ap (parse_map so.before) (item_refused (raw.value levels) n now going fails)

-- ---- members

-- what the members that are left go on with
pub record MembersSoFar (levels n : ℕ) (old now : List Token) (found : List Member) : Type 0 where
  pub readings : json.Members
  pub shows : marked_members readings ≡ found
  pub same : converted (λ ms. members_of_json ms json.no_members) (raw.members (raw.value levels) (length old) old) ≡ converted (λ ms. members_of_json ms readings) (raw.members (raw.value levels) n now)

pub no_member_yet : (levels : ℕ) (old : List Token) → MembersSoFar levels (length old) old old []
no_member_yet levels old = record { readings = json.no_members; shows = refl; same = refl }

pub one_member_more : (levels n : ℕ) (old now named new : List Token) (es : List Entry) (k : String Global) (t : Tree) → 0 < n → read_key now ≡ Some (Some (string_bytes k), named) → BeginsTree levels named new t
    → MembersSoFar levels n old now (members_in es) → MembersSoFar levels (n - 1) old new (members_in (insert_entry string_cmp es k t))
one_member_more levels n old now named new es k t some key one so = record {
  readings = json.put (string_bytes k) one.reading so.readings;
  shows = marked_members-put (string_bytes k) one.reading so.readings ∙ ap₂ (put_member (string_bytes k)) one.shows so.shows ∙ sym (members_in-insert k t es);
  same = so.same ∙ member_read (raw.value levels) so.readings n (string_bytes k) now named new one.reading some key one.begins;
}

pub all_members : (levels n : ℕ) (old now new : List Token) (found : List Member) → length now ≤ n → read_key now ≡ Some (None, new) → MembersSoFar levels n old now found → BeginsMembers levels old new found
all_members levels n old now new found enough end so = record {
  readings = so.readings;
  begins = so.same ∙ members_over (raw.value levels) so.readings n now new enough end;
  shows = so.shows;
}

pub member_fails : (levels n : ℕ) (old now named : List Token) (k : List ℕ) (found : List Member) → read_key now ≡ Some (Some k, named) → converted of_json (raw.value levels named) ≡ None → MembersSoFar levels n old now found
    → converted (λ ms. members_of_json ms json.no_members) (raw.members (raw.value levels) (length old) old) ≡ None
member_fails levels n old now named k found key fails so = so.same ∙ member_refused (raw.value levels) so.readings n k now named key fails

pub key_fails : (levels n : ℕ) (old now : List Token) (found : List Member) → read_key now ≡ None → MembersSoFar levels n old now found
    → converted (λ ms. members_of_json ms json.no_members) (raw.members (raw.value levels) (length old) old) ≡ None
key_fails levels n old now found fails so = so.same ∙ key_refused (raw.value levels) so.readings n now fails

-- ---- values

module _ (levels : ℕ) (old left : List Token) where
  -- the value at a token that opens nothing
  leaf : (t : Token) → old ≡ t ∷ left → converted of_json (raw.value levels old) ≡ converted of_json (raw.value levels (t ∷ left))
  leaf t is = ap (λ ts. converted of_json (raw.value levels ts)) is

  pub null_begins : old ≡ token.null ∷ left → BeginsTree levels old left Null
  null_begins is = record { reading = json.null; begins = leaf token.null is ∙ ap (converted of_json) (value_is levels (token.null ∷ left)); shows = refl }

  pub truth_begins : (b : Bool) → old ≡ token.boolean b ∷ left → BeginsTree levels old left (tree.Bool b)
  truth_begins b is = record { reading = json.boolean b; begins = leaf (token.boolean b) is ∙ ap (converted of_json) (value_is levels (token.boolean b ∷ left)); shows = refl }

  pub text_begins : (s : List ℕ) → old ≡ token.string s ∷ left → BeginsTree levels old left (tree.Text s)
  text_begins s is = record { reading = json.string s; begins = leaf (token.string s) is ∙ ap (converted of_json) (value_is levels (token.string s ∷ left)); shows = refl }

  number_at : (s : List ℕ) → old ≡ token.number s ∷ left → converted of_json (raw.value levels old) ≡ option_map (λ d. (d, left)) (option_map json.number (number_of s))
  number_at s is = leaf (token.number s) is ∙ ap (converted of_json) (value_is levels (token.number s ∷ left))

  pub number_begins : (s : List ℕ) (num : Num) → old ≡ token.number s ∷ left → option_map marked_number (number_of s) ≡ Some num → BeginsTree levels old left (tree.Num num)
  number_begins s num is reads =
      let n = mapped marked_number (number_of s) num reads in
      record { reading = json.number n.0; begins = number_at s is ∙ ap (λ o. option_map (λ d. (d, left)) (option_map json.number o)) n.1; shows = ap tree.Num n.2 }

  pub number_fails : (s : List ℕ) → old ≡ token.number s ∷ left → option_map marked_number (number_of s) ≡ None → converted of_json (raw.value levels old) ≡ None
  number_fails s is fails = number_at s is ∙ ap (λ o. option_map (λ d. (d, left)) (option_map json.number o)) (unmapped marked_number (number_of s) fails)

  list_at : old ≡ token.begin_array ∷ left → 0 < levels → converted of_json (raw.value levels old) ≡ parse_map json.array (converted items_of_json (raw.items (raw.value (levels - 1)) (length left) left))
  list_at is some = leaf token.begin_array is ∙ ap (converted of_json) (value-begin_array levels left some) ∙ list_read (raw.items (raw.value (levels - 1)) (length left) left)

  pub list_begins : (new : List Token) (items : List Tree) → old ≡ token.begin_array ∷ left → 0 < levels → BeginsItems (levels - 1) left new items → BeginsTree levels old new (Items items)
  list_begins new items is some inside = record { reading = json.array inside.readings; begins = list_at is some ∙ ap (parse_map json.array) inside.begins; shows = ap Items inside.shows }

  pub list_fails : old ≡ token.begin_array ∷ left → 0 < levels → converted items_of_json (raw.items (raw.value (levels - 1)) (length left) left) ≡ None → converted of_json (raw.value levels old) ≡ None
  list_fails is some fails = list_at is some ∙ ap (parse_map json.array) fails

  object_at : old ≡ token.begin_object ∷ left → 0 < levels
      → converted of_json (raw.value levels old) ≡ parse_map json.object (converted (λ ms. members_of_json ms json.no_members) (raw.members (raw.value (levels - 1)) (length left) left))
  object_at is some = leaf token.begin_object is ∙ ap (converted of_json) (value-begin_object levels left some) ∙ object_read (raw.members (raw.value (levels - 1)) (length left) left)

  pub object_begins : (new : List Token) (found : List Member) → old ≡ token.begin_object ∷ left → 0 < levels → BeginsMembers (levels - 1) left new found → BeginsTree levels old new (Object found)
  object_begins new found is some inside = record { reading = json.object inside.readings; begins = object_at is some ∙ ap (parse_map json.object) inside.begins; shows = ap Object inside.shows }

  pub object_fails : old ≡ token.begin_object ∷ left → 0 < levels → converted (λ ms. members_of_json ms json.no_members) (raw.members (raw.value (levels - 1)) (length left) left) ≡ None
      → converted of_json (raw.value levels old) ≡ None
  object_fails is some fails = object_at is some ∙ ap (parse_map json.object) fails

-- ---- texts

pub text_reads : (text : List ℕ) (old new : List Token) (t : Tree) → old ≡ tokens text → new ≡ [] → BeginsTree max_depth old new t → IsTextOf text t
text_reads text old new t is none one = record {
  reading = one.reading;
  reads = whole_read (raw.value max_depth (tokens text)) one.reading (ap (λ ts. converted of_json (raw.value max_depth ts)) (sym is) ∙ one.begins ∙ ap (λ r. Some (one.reading, r)) none);
  shows = one.shows;
}

pub text_fails : (text : List ℕ) (old : List Token) → old ≡ tokens text → converted of_json (raw.value max_depth old) ≡ None → read text ≡ None
text_fails text old is fails = whole_refused (raw.value max_depth (tokens text)) (ap (λ ts. converted of_json (raw.value max_depth ts)) (sym is) ∙ fails)

pub text_goes_on : (text : List ℕ) (old new : List Token) (t : Tree) (next : Token) (left : List Token) → old ≡ tokens text → new ≡ next ∷ left → BeginsTree max_depth old new t → read text ≡ None
text_goes_on text old new t next left is more one =
    whole_and_more (raw.value max_depth (tokens text)) one.reading next left (ap (λ ts. converted of_json (raw.value max_depth ts)) (sym is) ∙ one.begins ∙ ap (λ r. Some (one.reading, r)) more)

-- ---- what is found of the tree holds of the reading

pub marked_deep : (d : json.Data) (t : Tree) → marked d ≡ t → depth t ≡ json.depth d
marked_deep d t shows = ap depth (sym shows) ∙ depth-marked d

pub marked_tree : (d : json.Data) (t : Tree) → marked d ≡ t → is_whole t ≡ true → of_reading d ≡ Ok t
marked_tree d t shows e = whole_tree d (ap is_whole shows ∙ e) ∙ ap Ok shows

pub marked_fault : (d : json.Data) (t : Tree) → marked d ≡ t → is_whole t ≡ false → of_reading d ≡ Err FractionOrRange
marked_fault d t shows e = no_whole_tree d (ap is_whole shows ∙ e)
