use Rattle.std.proofs.Common.{◌≡◌, ◌<◌, ◌-◌, [], ◌∷◌, length, Some, None, string_bytes, sym, ap, ap₂, ◌∙◌, subst, arith, rules}
use Rattle.json.specs.Token as token
use Rattle.json.specs.Json.{after_end_array, read_key, value}
use Rattle.json.specs.Reads.{token_of}
use Rattle.json.proofs.Grammar.{value_is, read_key-shorter}
use Rattle.serde_json.specs.Read.{of_json, converted}
use Rattle.cd_tree.specs.Marked.{BeginsTree, BeginsItems, BeginsMembers, members_in}
use Rattle.cd_tree.specs.declared.tree.Tree.{Tree, Items, Object}
use Rattle.cd_tree.specs.declared.tree.Member.{Member}
use Rattle.std.proofs.Common.{List}
use Rattle.cd_tree.proofs.Marks.{ItemsSoFar, MembersSoFar, no_item_yet, one_item_more, all_items, item_fails, no_member_yet, one_member_more, all_members, member_fails, key_fails, null_begins, truth_begins, text_begins, number_begins, number_fails, list_begins, list_fails, object_begins, object_fails}
use Rattle.cd_tree.proofs.marking.+marked.Goals as goal

-- ---- values

pub value_marked-returns-in_err-token-clause-err : goal.value_marked-returns-in_err-token-clause-err
value_marked-returns-in_err-token-clause-err t c refused =
    let empty : c.args.reader.now ≡ [] = grind arith in
    ap (converted of_json) (ap (value c.args.depth) empty ∙ value_is c.args.depth [])

pub value_marked-returns-in-Null-clause-ok : goal.value_marked-returns-in-Null-clause-ok
value_marked-returns-in-Null-clause-ok t c =
    let first : c.args.reader.now ≡ token_of c.in_ok-token.token ∷ c.next.new.self = grind arith in
    let is : c.args.reader.now ≡ token.null ∷ c.next.new.self = grind (arith, first) in
    null_begins c.args.depth c.args.reader.now c.next.new.self is

pub value_marked-returns-in-Bool-clause-ok : goal.value_marked-returns-in-Bool-clause-ok
value_marked-returns-in-Bool-clause-ok t c =
    let first : c.args.reader.now ≡ token_of c.in_ok-token.token ∷ c.next.new.self = grind arith in
    let is : c.args.reader.now ≡ token.boolean c.in-Bool.truth ∷ c.next.new.self = grind (arith, first) in
    truth_begins c.args.depth c.args.reader.now c.next.new.self c.in-Bool.truth is

pub value_marked-returns-in-Some-clause-ok : goal.value_marked-returns-in-Some-clause-ok
value_marked-returns-in-Some-clause-ok t c =
    let first : c.args.reader.now ≡ token_of c.in_ok-token.token ∷ c.next.new.self = grind arith in
    let is : c.args.reader.now ≡ token.number c.in-Number.digits.now ∷ c.next.new.self = grind (arith, first) in
    number_begins c.args.depth c.args.reader.now c.next.new.self c.in-Number.digits.now c.in-Some.number is (sym c.in-Some.ensures)

pub value_marked-returns-in-None-clause-err : goal.value_marked-returns-in-None-clause-err
value_marked-returns-in-None-clause-err t c refused =
    let first : c.args.reader.now ≡ token_of c.in_ok-token.token ∷ c.next.new.self = grind arith in
    let is : c.args.reader.now ≡ token.number c.in-Number.digits.now ∷ c.next.new.self = grind (arith, first) in
    number_fails c.args.depth c.args.reader.now c.next.new.self c.in-Number.digits.now is (sym c.in-None.ensures)

pub value_marked-returns-in_ok-from_str-in-String-clause-ok : goal.value_marked-returns-in_ok-from_str-in-String-clause-ok
value_marked-returns-in_ok-from_str-in-String-clause-ok t c =
    let first : c.args.reader.now ≡ token_of c.in_ok-token.token ∷ c.next.new.self = grind arith in
    let is : c.args.reader.now ≡ token.string c.in-String.text.now ∷ c.next.new.self = grind (arith, first) in
    let made : c.in_ok-from_str-in-String.field-0 ≡ c.in-String.text.now = search rules in
    text_begins c.args.depth c.args.reader.now c.next.new.self c.in_ok-from_str-in-String.field-0 (is ∙ ap (λ s. token.string s ∷ c.next.new.self) (sym made))

pub value_marked-returns-in-EndObject-clause-err : goal.value_marked-returns-in-EndObject-clause-err
value_marked-returns-in-EndObject-clause-err t c refused =
    let first : c.args.reader.now ≡ token_of c.in_ok-token.token ∷ c.next.new.self = grind arith in
    let none : value c.args.depth c.args.reader.now ≡ None = rw (value_is c.args.depth c.args.reader.now, first) (grind arith) in
    ap (converted of_json) none

pub value_marked-returns-then-depth-eq0-clause-err : goal.value_marked-returns-then-depth-eq0-clause-err
unfolding value
value_marked-returns-then-depth-eq0-clause-err t c refused =
    let first : c.args.reader.now ≡ token_of c.in_ok-token.token ∷ c.next.new.self = grind arith in
    let none : c.args.depth ≡ 0 = omega arith in
    ap (converted of_json) (ap₂ value none (first ∙ ap (λ k. token_of k ∷ c.next.new.self) c.in-BeginArray.is))

pub value_marked-returns-then-depth-eq0-2-clause-err : goal.value_marked-returns-then-depth-eq0-2-clause-err
unfolding value
value_marked-returns-then-depth-eq0-2-clause-err t c refused =
    let first : c.args.reader.now ≡ token_of c.in_ok-token.token ∷ c.next.new.self = grind arith in
    let none : c.args.depth ≡ 0 = omega arith in
    ap (converted of_json) (ap₂ value none (first ∙ ap (λ k. token_of k ∷ c.next.new.self) c.in-BeginObject.is))

pub value_marked-returns-in_err-found-in-BeginArray-clause-err : goal.value_marked-returns-in_err-found-in-BeginArray-clause-err
value_marked-returns-in_err-found-in-BeginArray-clause-err t c refused =
    let first : c.args.reader.now ≡ token_of c.in_ok-token.token ∷ c.next.new.self = grind arith in
    let is = first ∙ ap (λ k. token_of k ∷ c.next.new.self) c.in-BeginArray.is in
    list_fails c.args.depth c.args.reader.now c.next.new.self is (omega arith) (c.items_marked.ensures.err (grind arith))

pub value_marked-returns-in_err-found-in-BeginObject-clause-err : goal.value_marked-returns-in_err-found-in-BeginObject-clause-err
value_marked-returns-in_err-found-in-BeginObject-clause-err t c refused =
    let first : c.args.reader.now ≡ token_of c.in_ok-token.token ∷ c.next.new.self = grind arith in
    let is = first ∙ ap (λ k. token_of k ∷ c.next.new.self) c.in-BeginObject.is in
    object_fails c.args.depth c.args.reader.now c.next.new.self is (omega arith) (c.members_marked.ensures.err (grind arith))

pub value_marked-returns-in_ok-new-in-BeginArray-clause-ok : goal.value_marked-returns-in_ok-new-in-BeginArray-clause-ok
value_marked-returns-in_ok-new-in-BeginArray-clause-ok t c =
    let first : c.args.reader.now ≡ token_of c.in_ok-token.token ∷ c.next.new.self = grind arith in
    let is = first ∙ ap (λ k. token_of k ∷ c.next.new.self) c.in-BeginArray.is in
    let found = c.in_ok-found-in-BeginArray.found in
    let made : c.in_ok-new-in-BeginArray.field-0 ≡ found = search rules in
    let whole = list_begins c.args.depth c.args.reader.now c.next.new.self c.items_marked.new.reader found is (omega arith) c.in_ok-found-in-BeginArray.ensures.ok in
    subst (λ (ts : List Tree). BeginsTree c.args.depth c.args.reader.now c.items_marked.new.reader (Items ts)) (sym made) whole

pub value_marked-returns-in_ok-new-in-BeginObject-clause-ok : goal.value_marked-returns-in_ok-new-in-BeginObject-clause-ok
value_marked-returns-in_ok-new-in-BeginObject-clause-ok t c =
    let first : c.args.reader.now ≡ token_of c.in_ok-token.token ∷ c.next.new.self = grind arith in
    let is = first ∙ ap (λ k. token_of k ∷ c.next.new.self) c.in-BeginObject.is in
    let found = c.in_ok-found-in-BeginObject.found in
    let made : c.in_ok-new-in-BeginObject.field-0 ≡ found = search rules in
    let whole = object_begins c.args.depth c.args.reader.now c.next.new.self c.members_marked.new.reader found is (omega arith) c.in_ok-found-in-BeginObject.ensures.ok in
    subst (λ (ms : List Member). BeginsTree c.args.depth c.args.reader.now c.members_marked.new.reader (Object ms)) (sym made) whole

-- ---- items

pub items_marked-loop-alloc-init : goal.items_marked-loop-alloc-init
items_marked-loop-alloc-init t c =
    let empty : c.in_ok-found.found.items ≡ [] = c.in_ok-found.ensures.items in
    (length c.args.reader.now, omega arith, subst (λ (ts : List Tree). ItemsSoFar c.args.depth (length c.args.reader.now) c.args.reader.now c.args.reader.now ts) (sym empty) (no_item_yet c.args.depth c.args.reader.now), omega arith)

pub items_marked-returns-in_err-item-clause-err : goal.items_marked-returns-in_err-item-clause-err
items_marked-returns-in_err-item-clause-err t c refused =
    let l = c.loop-alloc in
    let going : (after_end_array l.reader ≡ None) × (c.take_end_array.new.self ≡ l.reader) = grind arith in
    item_fails c.args.depth l.invariant.0 c.args.reader.now l.reader l.found.items going.0 (rw (← going.1) (c.value_marked.ensures.err (grind arith))) l.invariant.2

pub items_marked-loop-alloc-preserved : goal.items_marked-loop-alloc-preserved
items_marked-loop-alloc-preserved t c =
    let l = c.loop-alloc in
    let going : (after_end_array l.reader ≡ None) × (c.take_end_array.new.self ≡ l.reader) = grind arith in
    let done = c.in_ok-item.ensures in
    let r = c.value_marked.new.reader in
    let less : length r < length l.reader = rw (← going.1) done.shorter in
    let one : BeginsTree c.args.depth l.reader r c.in_ok-item.item = rw (← going.1) done.ok in
    let more = one_item_more c.args.depth l.invariant.0 c.args.reader.now l.reader r l.found.items c.in_ok-item.item (omega (arith, l.invariant.1, less)) going.0 one l.invariant.2 in (
      l.invariant.0 - 1,
      omega (arith, l.invariant.1, less),
      subst (λ (ts : List Tree). ItemsSoFar c.args.depth (l.invariant.0 - 1) c.args.reader.now r ts) (sym {A = List Tree} c.in_ok-push.ensures.items) more,
      omega (arith, l.invariant.3, less),
    )

pub items_marked-returns-clause-ok : goal.items_marked-returns-clause-ok
items_marked-returns-clause-ok t c =
    let l = c.loop-alloc in
    let r = c.take_end_array.new.self in
    let found : c.from_vec.result ≡ l.found.items = search rules in
    subst (λ (ts : List Tree). BeginsItems c.args.depth c.args.reader.now r ts) (sym found) (all_items c.args.depth l.invariant.0 c.args.reader.now l.reader r l.found.items l.invariant.1 (grind arith) l.invariant.2)

-- ---- members

pub members_marked-loop-found-init : goal.members_marked-loop-found-init
members_marked-loop-found-init t c =
    let none : members_in c.new-found.result.entries ≡ [] = ap members_in c.new-found.ensures.empty in
    (length c.args.reader.now, omega arith, subst (λ (ms : List Member). MembersSoFar c.args.depth (length c.args.reader.now) c.args.reader.now c.args.reader.now ms) (sym none) (no_member_yet c.args.depth c.args.reader.now), omega arith)

pub members_marked-returns-in_err-name-clause-err : goal.members_marked-returns-in_err-name-clause-err
members_marked-returns-in_err-name-clause-err t c refused =
    let l = c.loop-found in
    key_fails c.args.depth l.invariant.0 c.args.reader.now l.reader (members_in l.found.entries) c.in_err-name.ensures.value l.invariant.2

pub members_marked-returns-in_err-value-clause-err : goal.members_marked-returns-in_err-value-clause-err
members_marked-returns-in_err-value-clause-err t c refused =
    let l = c.loop-found in
    let k = c.in-Some.name.now in
    let s = c.next_key.new.self in
    let key : read_key l.reader ≡ Some (Some k, s) = grind arith in
    member_fails c.args.depth l.invariant.0 c.args.reader.now l.reader s k (members_in l.found.entries) key (c.value_marked.ensures.err (grind arith)) l.invariant.2

pub members_marked-loop-found-preserved : goal.members_marked-loop-found-preserved
members_marked-loop-found-preserved t c =
    let l = c.loop-found in
    let k = c.in_ok-key.key in
    let s = c.next_key.new.self in
    let copied : string_bytes k ≡ c.in-Some.name.now = search rules in
    let named : read_key l.reader ≡ Some (Some c.in-Some.name.now, s) = grind arith in
    let key : read_key l.reader ≡ Some (Some (string_bytes k), s) = named ∙ ap (λ x. Some (Some x, s)) (sym copied) in
    let done = c.in_ok-value.ensures in
    let r = c.value_marked.new.reader in
    let less = read_key-shorter l.reader (Some (string_bytes k)) s key in
    let lesser = done.shorter in
    let more = one_member_more c.args.depth l.invariant.0 c.args.reader.now l.reader s r l.found.entries k c.in_ok-value.value (omega (arith, l.invariant.1, less)) key done.ok l.invariant.2 in (
      l.invariant.0 - 1,
      omega (arith, l.invariant.1, less, lesser),
      subst (λ (ms : List Member). MembersSoFar c.args.depth (l.invariant.0 - 1) c.args.reader.now r ms) (sym (ap members_in c.in_ok-insert.ensures.entries)) more,
      omega (arith, l.invariant.3, less, lesser),
    )

pub members_marked-returns-clause-ok : goal.members_marked-returns-clause-ok
members_marked-returns-clause-ok t c =
    let l = c.loop-found in
    let r = c.next_key.new.self in
    let made : c.in_ok-in_order.field-0 ≡ members_in l.found.entries = search rules in
    subst (λ (ms : List Member). BeginsMembers c.args.depth c.args.reader.now r ms) (sym made) (all_members c.args.depth l.invariant.0 c.args.reader.now l.reader r (members_in l.found.entries) l.invariant.1 (grind arith) l.invariant.2)
