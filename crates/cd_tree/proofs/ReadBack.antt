-- The compact text of a sound tree reads as that tree.
use Rattle.std.proofs.Common.{◌≡◌, ℕ, zero, suc, ◌≤◌, ◌<◌, ◌^◌, max, negsuc, List, [], ◌∷◌, map, Bool, true, false, nat_lt, nat_le, Some, Ok, option_map, option_and_then, Ordering, Less, Equal, Greater, refl, sym, ap, ap₂, ◌∙◌, subst, arith, append-nil}
use Rattle.std.specs.Prelude.{⊤, IsUtf8}
use Rattle.std.specs.List.{list_all}
use Rattle.std.specs.Ordering.{nat_cmp, is_lt, ordering_reverse}
use Rattle.std.specs.Cmp.Lexicographic.{slice_cmp}
use Rattle.std.proofs.lemmas.Bool.{and_parts, leb-true, ltb-true}
use Rattle.std.proofs.lemmas.Cmp.{nat_list_cmp_total}
use Rattle.json.specs.Json as raw
use Rattle.json.specs.Lex as lex
use Rattle.json.specs.Print.{print}
use Rattle.json.specs.Tree as raw_tree
use Rattle.json.specs.Tree.{json_tokens, HasNumbers, ItemsHaveNumbers, MembersHaveNumbers}
use Rattle.json.proofs.Printed.Decimals.{IsNumber-decimal, IsNumber-signed_decimal}
use Rattle.json.proofs.Printed.Tokens.{tokens-print}
use Rattle.json.proofs.Printed.Trees.{value-json_tokens, ArePrintable-json_tokens}
use Rattle.serde_json.specs.Data as json
use Rattle.serde_json.specs.Read.{of_json, of_items as items_of_json, of_members as members_of_json, read, max_depth}
use Rattle.serde_json.specs.Written.{outline, items_outline, members_outline}
use Rattle.serde_json.proofs.Numbers.{number_of-decimal, number_of-negative}
use Rattle.cd_text.specs.Steps.{◌▷◌}
use Rattle.cd_tree.specs.Tree.{depth, tokens, text, is_ordered, ordered_member, keys_rise, is_below, is_number, IsSound}
use Rattle.cd_tree.specs.Reading.{of_reading, of_items, of_members, tree_of}
use Rattle.cd_tree.specs.Utf8.{are_text}
use Rattle.cd_tree.specs.declared.limits.TheConstants.{MAX_DEPTH}
use Rattle.cd_tree.specs.declared.tree.Member.{Member, out-Member, roll-Member, roll-out-Member, out-roll-Member}
use Rattle.cd_tree.specs.declared.tree.Tree as tree
use Rattle.cd_tree.specs.declared.tree.Tree.{Tree, Null, Items, Object, roll-Tree, map-Tree, ind-Tree}
use Rattle.cd_tree.specs.declared.tree.Tree.TheOpen.{Tree-F, Member-F}
use Rattle.cd_tree.specs.declared.tree.Tree.TheVariants.{rolls-Null, rolls-Bool, rolls-Num, rolls-Text, rolls-Items, rolls-Object}
use Rattle.cd_tree.proofs.Inside.{parts_of}
use Rattle.cd_tree.proofs.Outcomes.{reads, is_tree}
use Rattle.cd_tree.proofs.Readings.{is_same}
use Rattle.cd_tree.proofs.Utf8Texts.{printed_utf8}
use Rattle.cd_tree.proofs.Trees.{value_ordered, is_ordered-Num, list_ordered, object_ordered}

-- ---- members put one after another

unfoldable append : json.Members → json.Members → json.Members
append json.no_members more = more
append (json.member k d ms) more = json.member k d (append ms more)

-- every key is below k
abbrev AreBelow : json.Members → List ℕ → Type 0
AreBelow json.no_members k = ⊤
AreBelow (json.member l d ms) k = (slice_cmp nat_cmp l k ≡ Less) × AreBelow ms k

-- every key is below every key of the members
abbrev IsClear : json.Members → List Member → Type 0
IsClear found [] = ⊤
IsClear found (m ∷ ms) = AreBelow found (out-Member m).key × IsClear found ms

above : (k l : List ℕ) → slice_cmp nat_cmp l k ≡ Less → slice_cmp nat_cmp k l ≡ Greater
above k l e = nat_list_cmp_total.antisymm k l ∙ ap ordering_reverse e

put_last : (k : List ℕ) (d : json.Data) (ms : json.Members) → AreBelow ms k → json.put k d ms ≡ append ms (json.member k d json.no_members)
unfolding append
put_last k d json.no_members h = refl
put_last k d (json.member l e ms) h = rw (above k l h.0) (ap (json.member l e) (put_last k d ms h.1))

append-append : (ms more last : json.Members) → append (append ms more) last ≡ append ms (append more last)
unfolding append
append-append json.no_members more last = refl
append-append (json.member k d ms) more last = ap (json.member k d) (append-append ms more last)

append-none : (ms : json.Members) → append ms json.no_members ≡ ms
unfolding append
append-none json.no_members = refl
append-none (json.member k d ms) = ap (json.member k d) (append-none ms)

append-one : (k : List ℕ) (d : json.Data) (ms : json.Members) → append (json.member k d json.no_members) ms ≡ json.member k d ms
unfolding append
append-one k d ms = refl

none-append : (ms : json.Members) → append json.no_members ms ≡ ms
unfolding append
none-append ms = refl

below_push : (found : json.Members) (k l : List ℕ) (d : json.Data) → AreBelow found l → slice_cmp nat_cmp k l ≡ Less → AreBelow (append found (json.member k d json.no_members)) l
unfolding append
below_push json.no_members k l d h e = (e, tt)
below_push (json.member m x ms) k l d h e = (h.0, below_push ms k l d h.1 e)

less : (o : Ordering) → is_lt o ≡ true → o ≡ Less
less Less e = refl
less Equal e = cc
less Greater e = cc

clear_push : (found : json.Members) (k : List ℕ) (d : json.Data) (ms : List Member) → IsClear found ms → list_all (λ later. is_below k later.0) (map ordered_member ms) ≡ true
    → IsClear (append found (json.member k d json.no_members)) ms
clear_push found k d [] h e = tt
clear_push found k d (m ∷ ms) h e =
    let l = (out-Member m).key in
    let parts = and_parts (is_below k l) _ e in
    (below_push found k l d h.0 (less (slice_cmp nat_cmp k l) parts.0), clear_push found k d ms h.1 parts.1)

none_clear : (ms : List Member) → IsClear json.no_members ms
none_clear [] = tt
none_clear (m ∷ ms) = (tt, none_clear ms)

-- ---- data whose text reads as it, and whose tree is given

record HasReading (t : Tree) : Type 0 where
  given : json.Data
  tree : of_reading given ≡ Ok t
  back : of_json (outline given) ≡ Some given
  numbers : HasNumbers (outline given)

record HaveReading (ts : List Tree) : Type 0 where
  given : json.Items
  trees : of_items given ≡ Ok ts
  back : items_of_json (items_outline given) ≡ Some given
  numbers : ItemsHaveNumbers (items_outline given)

record MembersHaveReading (ms : List Member) : Type 0 where
  given : json.Members
  trees : of_members given ≡ Ok ms
  back : (found : json.Members) → IsClear found ms → members_of_json (members_outline given) found ≡ Some (append found given)
  numbers : MembersHaveNumbers (members_outline given)

abbrev Reads : Tree → Type 0
Reads t = is_ordered t ≡ true → HasReading t

abbrev MemberReads : Member → Type 0
MemberReads m = value_ordered m ≡ true → HasReading (out-Member m).value

number_reads : (negative : Bool) (size : ℕ) → is_number (record { negative = negative; size = size }) ≡ true → HasReading (tree.Num (record { negative = negative; size = size }))
number_reads false n h =
    let fits : n < 2 ^ 64 = ltb-true n (2 ^ 64) h in
    record { given = json.number (json.unsigned n); tree = refl; back = ap (option_map json.number) (number_of-decimal n fits); numbers = IsNumber-decimal n fits }
number_reads true zero h = absurd (let never : ⊥ = cc in never)
number_reads true (suc n) h =
    let low : suc n ≤ 2 ^ 63 = leb-true (suc n) (2 ^ 63) (and_parts (nat_lt 0 (suc n)) (nat_le (suc n) (2 ^ 63)) h).1 in
    let fits : n < 2 ^ 63 = omega arith in
    record { given = json.number (json.negative (negsuc n)); tree = refl; back = ap (option_map json.number) (number_of-negative n fits); numbers = IsNumber-signed_decimal (negsuc n) fits }

abbrev Such : Type 0
Such = (t : Tree) × Reads t

abbrev SuchMember : Type 0
SuchMember = (m : Member) × MemberReads m

items_read : (es : List Such) → list_all is_ordered (map (λ e. e.0) es) ≡ true → HaveReading (map (λ e. e.0) es)
items_read [] h = record { given = json.no_items; trees = refl; back = refl; numbers = tt }
items_read (e ∷ es) h =
    let parts = and_parts (is_ordered e.0) _ h in
    let first = e.1 parts.0 in
    let rest = items_read es parts.1 in
    record {
      given = json.item first.given rest.given;
      trees = ap (λ r. r ▷ λ one. of_items rest.given ▷ λ more. Ok (one ∷ more)) first.tree ∙ ap (λ r. r ▷ λ more. Ok (e.0 ∷ more)) rest.trees;
      back = ap (option_and_then (λ d. option_map (json.item d) (items_of_json (items_outline rest.given)))) first.back ∙ ap (option_map (json.item first.given)) rest.back;
      numbers = (first.numbers, rest.numbers);
    }

members_read : (es : List SuchMember) → keys_rise (map ordered_member (map (λ e. e.0) es)) ≡ true → list_all value_ordered (map (λ e. e.0) es) ≡ true → MembersHaveReading (map (λ e. e.0) es)
members_read [] rise h = record { given = json.no_members; trees = refl; back = λ found clear. ap Some (sym (append-none found)); numbers = tt }
members_read (e ∷ es) rise h =
    let ms = map (λ e. e.0) es in
    let k = (out-Member e.0).key in
    let keys = and_parts (list_all (λ later. is_below k later.0) (map ordered_member ms)) _ rise in
    let parts = and_parts (value_ordered e.0) _ h in
    let first = e.1 parts.0 in
    let rest = members_read es keys.1 parts.1 in
    let one = json.member k first.given json.no_members in
    record {
      given = json.member k first.given rest.given;
      trees = ap (λ r. r ▷ λ value. of_members rest.given ▷ λ more. Ok (roll-Member (record { key = k; value = value }) ∷ more)) first.tree
          ∙ ap (λ r. r ▷ λ more. Ok (roll-Member (out-Member e.0) ∷ more)) rest.trees ∙ ap (λ m. Ok (m ∷ ms)) (roll-out-Member e.0);
      back = λ found clear.
          ap (option_and_then (λ d. members_of_json (members_outline rest.given) (json.put k d found))) first.back
          ∙ ap (members_of_json (members_outline rest.given)) (put_last k first.given found clear.0)
          ∙ rest.back (append found one) (clear_push found k first.given ms clear.1 keys.0)
          ∙ ap Some (append-append found one rest.given) ∙ ap (λ ds. Some (append found ds)) (append-one k first.given rest.given);
      numbers = (first.numbers, rest.numbers);
    }

layer : (y : Tree-F Such SuchMember) → Reads (roll-Tree (map-Tree Such SuchMember Tree Member (λ e. e.0) (λ e. e.0) y))
layer Tree-F.Null = subst Reads (sym rolls-Null) (λ h. record { given = json.null; tree = refl; back = refl; numbers = tt })
layer (Tree-F.Bool b) = subst Reads (sym (rolls-Bool b)) (λ h. record { given = json.boolean b; tree = refl; back = refl; numbers = tt })
layer (Tree-F.Num n) = subst Reads (sym (rolls-Num n)) (λ h. number_reads n.negative n.size (sym (is_ordered-Num n) ∙ h))
layer (Tree-F.Text s) = subst Reads (sym (rolls-Text s)) (λ h. record { given = json.string s; tree = refl; back = refl; numbers = tt })
layer (Tree-F.Items es) =
    let ts = map (λ e. e.0) es in
    subst Reads (sym (rolls-Items ts)) (λ h.
    let below = items_read es (sym (list_ordered ts) ∙ h) in
    record {
      given = json.array below.given;
      tree = ap (λ r. r ▷ λ items. Ok (Items items)) below.trees;
      back = ap (option_map json.array) below.back;
      numbers = below.numbers;
    })
layer (Tree-F.Object es) =
    let ms = map (λ e. e.0) es in
    subst Reads (sym (rolls-Object ms)) (λ h.
    let parts = and_parts (keys_rise (map ordered_member ms)) _ (sym (object_ordered ms) ∙ h) in
    let below = members_read es parts.0 parts.1 in
    record {
      given = json.object below.given;
      tree = ap (λ r. r ▷ λ members. Ok (Object members)) below.trees;
      back = ap (option_map json.object) (below.back json.no_members (none_clear ms) ∙ ap Some (none-append below.given));
      numbers = below.numbers;
    })

member_layer : (y : Member-F Such SuchMember) → MemberReads (roll-Member (record { key = y.key; value = y.value.0 }))
member_layer y = subst (λ m. is_ordered m.value ≡ true → HasReading m.value) (sym (out-roll-Member (record { key = y.key; value = y.value.0 }))) y.value.1

has_reading : (t : Tree) → Reads t
has_reading = ind-Tree Reads MemberReads (λ x y is. subst (λ z. Reads (roll-Tree z)) is (layer y)) (λ x y is. subst (λ z. MemberReads (roll-Member z)) is (member_layer y))

-- ---- the text of a sound tree

mutual
  outline_depth : (d : json.Data) → raw_tree.depth (outline d) ≡ json.depth d
  outline_depth json.null = refl
  outline_depth (json.boolean b) = refl
  outline_depth (json.number n) = refl
  outline_depth (json.string s) = refl
  outline_depth (json.array ds) = ap suc (items_outline_depth ds)
  outline_depth (json.object ms) = ap suc (members_outline_depth ms)

  items_outline_depth : (ds : json.Items) → raw_tree.items_depth (items_outline ds) ≡ json.items_depth ds
  items_outline_depth json.no_items = refl
  items_outline_depth (json.item d ds) = ap₂ max (outline_depth d) (items_outline_depth ds)

  members_outline_depth : (ms : json.Members) → raw_tree.members_depth (members_outline ms) ≡ json.members_depth ms
  members_outline_depth json.no_members = refl
  members_outline_depth (json.member k d ms) = ap₂ max (outline_depth d) (members_outline_depth ms)

text_read : (t : Tree) (r : HasReading t) → IsSound t → lex.tokens (text t) ≡ tokens t → read (text t) ≡ Some r.given
text_read t r sound lexed =
    let j = outline r.given in
    let same = is_same r.given t r.tree in
    let low : depth t ≤ MAX_DEPTH = (parts_of t sound).shallow in
    let shallow : raw_tree.depth j ≤ max_depth = omega (arith, outline_depth r.given, same.deep, low) in
    ap (λ ts. option_and_then of_json (option_and_then (λ p. raw.if_last p.0 p.1) (raw.value max_depth ts))) (lexed ∙ sym same.same ∙ sym (append-nil (json_tokens j)))
    ∙ ap (λ o. option_and_then of_json (option_and_then (λ p. raw.if_last p.0 p.1) o)) (value-json_tokens j max_depth [] shallow)
    ∙ r.back

pub written_reads : (t : Tree) → IsSound t → IsUtf8 (text t) → lex.tokens (text t) ≡ tokens t → tree_of (text t) ≡ Ok t
written_reads t sound utf8 lexed =
    let p = parts_of t sound in
    let r = has_reading t p.ordered in
    let shallow : json.depth r.given ≤ MAX_DEPTH = rw (is_same r.given t r.tree).deep p.shallow in
    is_tree (text t) r.given t p.short (reads (text t) r.given utf8 (text_read t r sound lexed)) shallow r.tree p.short

-- the text of a sound tree is cut into the tokens that it is made of, whatever the bytes of its texts
lexed_back : (t : Tree) (r : HasReading t) → lex.tokens (text t) ≡ tokens t
lexed_back t r =
    let same = (is_same r.given t r.tree).same in
    ap (λ ts. lex.tokens (print ts)) (sym same) ∙ tokens-print (json_tokens (outline r.given)) (ArePrintable-json_tokens (outline r.given) r.numbers) ∙ same

-- so the text has one reading, and that one tree
pub one_text_one_tree : (t u : Tree) → IsSound t → IsSound u → text t ≡ text u → t ≡ u
one_text_one_tree t u sound_t sound_u e =
    let r = has_reading t (parts_of t sound_t).ordered in
    let s = has_reading u (parts_of u sound_u).ordered in
    let given : r.given ≡ s.given = cc (text_read t r sound_t (lexed_back t r), ap read e, text_read u s sound_u (lexed_back u s)) in
    cc (r.tree, ap of_reading given, s.tree)

-- of every tree whose texts are UTF-8
pub tree_reads_back : (t : Tree) → IsSound t → are_text (tokens t) ≡ true → tree_of (text t) ≡ Ok t
tree_reads_back t sound texts =
    written_reads t sound (printed_utf8 false (tokens t) texts) (lexed_back t (has_reading t (parts_of t sound).ordered))
