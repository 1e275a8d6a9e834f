-- The equations of the definitions on trees, one for each kind.
use Rattle.std.proofs.Common.{◌≡◌, ℕ, suc, ◌+◌, ◌<◌, List, [], ◌∷◌, Bool, true, ◌++◌, ◌&&◌, length, map, get_or, drop, sym, ap, ◌∙◌, rules}
use Rattle.std.proofs.lemmas.List.{drop_more}
use Rattle.json.specs.Token.{null, boolean, number, string, key, begin_array, end_array, begin_object, end_object}
use Rattle.cd_tree.specs.Tree.{largest, depth, member_depth, tokens, member_tokens, is_ordered, ordered_member, are_ordered, keys_rise, is_number, number_text}
use Rattle.std.specs.List.{list_all}
use Rattle.cd_tree.specs.declared.tree.Member.{Member, out-Member, roll-Member}
use Rattle.cd_tree.specs.declared.tree.Num.{Num}
use Rattle.cd_tree.specs.declared.tree.Tree as tree
use Rattle.cd_tree.specs.declared.tree.Tree.{Tree, Null, Items, Object, out-Tree, roll-Tree, roll-out-Tree, the_lemmas}
use Rattle.cd_tree.specs.declared.tree.Tree.TheOpen.{Tree-F}
use Rattle.cd_tree.specs.declared.tree.Tree.TheVariants.{rolls-Items, rolls-Object}
use Rattle.std.proofs.lemmas.List.Folds.{list_all-map}
use Rattle.cd_text.specs.Steps.{joined}

-- ---- the depth of each kind

pub depth-Null : depth Null ≡ 0
depth-Null = search (rules, the_lemmas)

pub depth-Bool : (b : Bool) → depth (tree.Bool b) ≡ 0
depth-Bool b = search (rules, the_lemmas)

pub depth-Num : (n : Num) → depth (tree.Num n) ≡ 0
depth-Num n = search (rules, the_lemmas)

pub depth-Text : (t : List ℕ) → depth (tree.Text t) ≡ 0
depth-Text t = search (rules, the_lemmas)

pub depth-Items : (items : List Tree) → depth (Items items) ≡ suc (largest (map depth items))
depth-Items items = search (rules, the_lemmas)

pub depth-Object : (members : List Member) → depth (Object members) ≡ suc (largest (map member_depth members))
depth-Object members = search (rules, the_lemmas)

-- ---- the tokens of each kind

pub tokens-Null : tokens Null ≡ null ∷ []
tokens-Null = search (rules, the_lemmas)

pub tokens-Bool : (b : Bool) → tokens (tree.Bool b) ≡ boolean b ∷ []
tokens-Bool b = search (rules, the_lemmas)

pub tokens-Num : (n : Num) → tokens (tree.Num n) ≡ number (number_text n) ∷ []
tokens-Num n = search (rules, the_lemmas)

pub tokens-Text : (t : List ℕ) → tokens (tree.Text t) ≡ string t ∷ []
tokens-Text t = search (rules, the_lemmas)

pub tokens-Items : (items : List Tree) → tokens (Items items) ≡ begin_array ∷ (joined (map tokens items) ++ end_array ∷ [])
tokens-Items items = search (rules, the_lemmas)

pub tokens-Object : (members : List Member) → tokens (Object members) ≡ begin_object ∷ (joined (map member_tokens members) ++ end_object ∷ [])
tokens-Object members = search (rules, the_lemmas)

-- ---- which trees of each kind are ordered

pub null_ordered : is_ordered Null ≡ true
null_ordered = search (rules, the_lemmas)

pub is_ordered-Bool : (b : Bool) → is_ordered (tree.Bool b) ≡ true
is_ordered-Bool b = search (rules, the_lemmas)

pub is_ordered-Num : (n : Num) → is_ordered (tree.Num n) ≡ is_number n
is_ordered-Num n = search (rules, the_lemmas)

pub is_ordered-Text : (t : List ℕ) → is_ordered (tree.Text t) ≡ true
is_ordered-Text t = search (rules, the_lemmas)

pub is_ordered-Items : (items : List Tree) → is_ordered (Items items) ≡ list_all (λ b. b) (map is_ordered items)
is_ordered-Items items = search (rules, the_lemmas)

pub is_ordered-Object : (members : List Member) → is_ordered (Object members) ≡ (keys_rise (map ordered_member members) && are_ordered (map ordered_member members))
is_ordered-Object members = search (rules, the_lemmas)

-- ---- order, a level at a time

abbrev pub value_ordered : Member → Bool
value_ordered member = is_ordered (out-Member member).value

pub list_ordered : (items : List Tree) → is_ordered (Items items) ≡ list_all is_ordered items
list_ordered items = is_ordered-Items items ∙ list_all-map (λ b. b) is_ordered items

pub object_ordered : (members : List Member) → is_ordered (Object members) ≡ (keys_rise (map ordered_member members) && list_all value_ordered members)
object_ordered members = is_ordered-Object members ∙ ap (λ b. keys_rise (map ordered_member members) && b) (list_all-map (λ m. m.1) ordered_member members)

abbrev pub layer_ordered : Tree-F Tree Member → Bool
layer_ordered Tree-F.Null = true
layer_ordered (Tree-F.Bool b) = true
layer_ordered (Tree-F.Num n) = is_number n
layer_ordered (Tree-F.Text t) = true
layer_ordered (Tree-F.Items items) = list_all is_ordered items
layer_ordered (Tree-F.Object members) = keys_rise (map ordered_member members) && list_all value_ordered members

is_ordered-roll : (x : Tree-F Tree Member) → is_ordered (roll-Tree x) ≡ layer_ordered x
is_ordered-roll Tree-F.Null = search (rules, the_lemmas)
is_ordered-roll (Tree-F.Bool b) = search (rules, the_lemmas)
is_ordered-roll (Tree-F.Num n) = search (rules, the_lemmas)
is_ordered-roll (Tree-F.Text t) = search (rules, the_lemmas)
is_ordered-roll (Tree-F.Items items) = ap is_ordered (rolls-Items items) ∙ list_ordered items
is_ordered-roll (Tree-F.Object members) = ap is_ordered (rolls-Object members) ∙ object_ordered members

pub is_ordered-out : (t : Tree) → is_ordered t ≡ layer_ordered (out-Tree t)
is_ordered-out t = ap is_ordered (sym (roll-out-Tree t)) ∙ is_ordered-roll (out-Tree t)

pub empty_object_ordered : is_ordered (Object []) ≡ true
empty_object_ordered = object_ordered []

-- ---- a member that was made of its parts

pub member_tokens-roll : (k : List ℕ) (t : Tree) → member_tokens (roll-Member (record { key = k; value = t })) ≡ key k ∷ tokens t
member_tokens-roll k t = search (rules, the_lemmas)

pub member_depth-roll : (k : List ℕ) (t : Tree) → member_depth (roll-Member (record { key = k; value = t })) ≡ depth t
member_depth-roll k t = search (rules, the_lemmas)

pub ordered_member-roll : (k : List ℕ) (t : Tree) → ordered_member (roll-Member (record { key = k; value = t })) ≡ (k, is_ordered t)
ordered_member-roll k t = search (rules, the_lemmas)

pub value_ordered-roll : (k : List ℕ) (t : Tree) → value_ordered (roll-Member (record { key = k; value = t })) ≡ is_ordered t
value_ordered-roll k t = search (rules, the_lemmas)

-- ---- loops

-- what a loop over a list has left, before and after one element
pub drop-element : {A : Type 0} (xs : List A) (i : ℕ) (x : A) → i < length xs → x ≡ get_or xs i x → drop i xs ≡ x ∷ drop (i + 1) xs
drop-element xs i x within is = drop_more xs i x within ∙ ap (λ y. y ∷ drop (i + 1) xs) (sym is)
