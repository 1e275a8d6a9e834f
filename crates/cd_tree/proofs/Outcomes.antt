-- Steps that may fail, taken apart, and what `tree_of` gives case by case.
use Rattle.std.proofs.Common.{◌≡◌, ℕ, ◌<◌, ◌≤◌, List, length, Bool, true, false, nat_lt, not, Some, None, Result, Ok, Err, inl, inr, true≢false, refl, sym, ap, ◌∙◌}
use Rattle.std.specs.Prelude.{IsTrue}
use Rattle.std.proofs.lemmas.Bool.{lt-ltb, le-ltb, cases_lt}
use Rattle.std.specs.Str.{IsUtf8, is_utf8}
use Rattle.std.proofs.lemmas.Str.{IsUtf8-from_is_utf8, is_utf8-from_IsUtf8}
use Rattle.serde_json.specs.Data as json
use Rattle.serde_json.specs.Read.{read}
use Rattle.cd_text.specs.Steps.{◌▷◌, refused_where, some_or}
use Rattle.cd_tree.specs.Tree.{text}
use Rattle.cd_tree.specs.Reading.{of_reading, json_reading, tree_of}
use Rattle.cd_tree.specs.declared.fault.TreeFault.{TreeFault}
use Rattle.cd_tree.specs.declared.fault.TreeFault.TheVariants.{NotJson, TooDeep, TooLong}
use Rattle.cd_tree.specs.declared.limits.TheConstants.{MAX_DEPTH, MAX_TEXT_BYTES}
use Rattle.cd_tree.specs.declared.tree.Tree.{Tree}

-- where two steps gave a value, the first gave one, and the second gave the value from it
pub chained : {A B E : Type 0} (r : Result A E) (f : A → Result B E) (b : B) → (r ▷ f) ≡ Ok b → (a : A) × (r ≡ Ok a) × (f a ≡ Ok b)
chained (Ok a) f b e = (a, refl, e)
chained (Err fault) f b e = absurd (let no : ⊥ = cc in no)

-- where a test did not stop, it does not hold
pub passed : {B : Type 0} (holds : Bool) (fault : TreeFault) (r : Result B TreeFault) (b : B) → (refused_where holds fault ▷ λ _. r) ≡ Ok b → (holds ≡ false) × (r ≡ Ok b)
passed true fault r b e = absurd (let no : ⊥ = cc in no)
passed false fault r b e = (refl, e)

-- ---- readings

-- UTF-8 with a reading
pub reads : (b : List ℕ) (d : json.Data) → IsUtf8 b → read b ≡ Some d → json_reading b ≡ Ok d
reads b d utf8 is = ap (λ t. refused_where (not t) NotJson ▷ λ _. some_or NotJson (read b)) (is_utf8-from_IsUtf8 b utf8) ∙ ap (some_or NotJson) is

none : (b : List ℕ) (t : Bool) → is_utf8 b ≡ t → (IsUtf8 b → read b ≡ None) → json_reading b ≡ Err NotJson
none b true is h = ap (λ u. refused_where (not u) NotJson ▷ λ _. some_or NotJson (read b)) is ∙ ap (some_or NotJson) (h (IsUtf8-from_is_utf8 b is))
none b false is h = ap (λ u. refused_where (not u) NotJson ▷ λ _. some_or NotJson (read b)) is

-- no UTF-8, or no reading
pub reads_not : (b : List ℕ) → (IsUtf8 b → read b ≡ None) → json_reading b ≡ Err NotJson
reads_not b h = none b (is_utf8 b) refl h

-- ---- trees of texts

-- the tree, unless its text is too long
abbrev pub if_short : Tree → Result Tree TreeFault
if_short t = refused_where (nat_lt MAX_TEXT_BYTES (length (text t))) TooLong ▷ λ _. Ok t

-- what follows the reading
abbrev pub of_json : json.Data → Result Tree TreeFault
of_json d = refused_where (nat_lt MAX_DEPTH (json.depth d)) TooDeep ▷ λ _. of_reading d ▷ if_short

-- the first test stops
pub too_long : (b : List ℕ) → MAX_TEXT_BYTES < length b → tree_of b ≡ Err TooLong
unfolding tree_of
too_long b long = ap (λ t. refused_where t TooLong ▷ λ _. json_reading b ▷ of_json) (lt-ltb MAX_TEXT_BYTES (length b) long)

-- the first test doesn't
pub within : (b : List ℕ) → length b ≤ MAX_TEXT_BYTES → tree_of b ≡ (json_reading b ▷ of_json)
unfolding tree_of
within b short = ap (λ t. refused_where t TooLong ▷ λ _. json_reading b ▷ of_json) (le-ltb MAX_TEXT_BYTES (length b) short)

-- no reading
pub unread : (b : List ℕ) (fault : TreeFault) → length b ≤ MAX_TEXT_BYTES → json_reading b ≡ Err fault → tree_of b ≡ Err fault
unread b fault short is = within b short ∙ ap (λ r. r ▷ of_json) is

-- a reading that nests too deep
pub too_deep : (b : List ℕ) (d : json.Data) → length b ≤ MAX_TEXT_BYTES → json_reading b ≡ Ok d → MAX_DEPTH < json.depth d → tree_of b ≡ Err TooDeep
too_deep b d short is deep = within b short ∙ ap (λ r. r ▷ of_json) is ∙ ap (λ t. refused_where t TooDeep ▷ λ _. of_reading d ▷ if_short) (lt-ltb MAX_DEPTH (json.depth d) deep)

-- one that doesn't
pub shallow : (b : List ℕ) (d : json.Data) → length b ≤ MAX_TEXT_BYTES → json_reading b ≡ Ok d → json.depth d ≤ MAX_DEPTH → tree_of b ≡ (of_reading d ▷ if_short)
shallow b d short is deep = within b short ∙ ap (λ r. r ▷ of_json) is ∙ ap (λ t. refused_where t TooDeep ▷ λ _. of_reading d ▷ if_short) (le-ltb MAX_DEPTH (json.depth d) deep)

-- a reading with no tree
pub no_tree : (b : List ℕ) (d : json.Data) (fault : TreeFault) → length b ≤ MAX_TEXT_BYTES → json_reading b ≡ Ok d → json.depth d ≤ MAX_DEPTH → of_reading d ≡ Err fault → tree_of b ≡ Err fault
no_tree b d fault short is deep e = shallow b d short is deep ∙ ap (λ r. r ▷ if_short) e

-- a tree whose text is too long
pub long_text : (b : List ℕ) (d : json.Data) (t : Tree) → length b ≤ MAX_TEXT_BYTES → json_reading b ≡ Ok d → json.depth d ≤ MAX_DEPTH → of_reading d ≡ Ok t → MAX_TEXT_BYTES < length (text t) → tree_of b ≡ Err TooLong
long_text b d t short is deep tree long = shallow b d short is deep ∙ ap (λ r. r ▷ if_short) tree ∙ ap (λ h. refused_where h TooLong ▷ λ _. Ok t) (lt-ltb MAX_TEXT_BYTES (length (text t)) long)

-- a tree
pub is_tree : (b : List ℕ) (d : json.Data) (t : Tree) → length b ≤ MAX_TEXT_BYTES → json_reading b ≡ Ok d → json.depth d ≤ MAX_DEPTH → of_reading d ≡ Ok t → length (text t) ≤ MAX_TEXT_BYTES → tree_of b ≡ Ok t
is_tree b d t short is deep tree fits = shallow b d short is deep ∙ ap (λ r. r ▷ if_short) tree ∙ ap (λ h. refused_where h TooLong ▷ λ _. Ok t) (le-ltb MAX_TEXT_BYTES (length (text t)) fits)

-- a test that can't hold
pub not_above : (m n : ℕ) → (m < n → IsTrue false) → n ≤ m
not_above m n never = elim (cases_lt m n) [ inl h ↦ absurd (true≢false (sym (never h))) | inr h ↦ h ]
