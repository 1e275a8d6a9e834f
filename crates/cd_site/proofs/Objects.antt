-- What is read of an object of entries, of a list, and of a text.
use Rattle.std.proofs.Common.{◌≡◌, ℕ, suc, Bool, true, false, not, ◌&&◌, List, [], ◌∷◌, map, Option, Some, None, Result, Ok, Err, refl, sym, ap, ap₂, ◌∙◌, rules, decimal}
use Rattle.std.specs.Prelude.{codes, if◌then◌else◌}
use Rattle.std.specs.List.{list_all}
use Rattle.std.specs.Result.{result_map_both}
use Rattle.std.specs.Str.{bytes_eq}
use Rattle.cd_text.specs.ByKey.{key_le, put_by_key, by_key}
use Rattle.cd_text.specs.Steps.{◌▷◌}
use Rattle.cd_tree.specs.Fields.{is_known, unknown, unless_unknown, over_layer, null_layer, is_null, get}
use Rattle.cd_tree.specs.Path.{◌▸◌}
use Rattle.cd_tree.specs.declared.path.Path.{Path}
use Rattle.cd_tree.specs.declared.tree.Member.{Member, roll-Member, out-Member, out-roll-Member}
use Rattle.cd_tree.specs.declared.tree.Num.{Num}
use Rattle.cd_tree.specs.declared.tree.Tree as tree
use Rattle.cd_tree.specs.declared.tree.Tree.{Tree, out-Tree, the_lemmas}
use Rattle.cd_tree.specs.declared.tree.Tree.TheOpen.{Tree-F}
use Rattle.cd_module.specs.Faults.{of_field}
use Rattle.cd_module.specs.Patterns.{pattern, pattern_of}
use Rattle.cd_module.specs.Settings.{Reader, text, text_layer, truth, truth_layer, list_of, list_layer, each, members, all_layer, where_there, optional, must_be_there, needed, name_of, is_setting, is_no_id, each_member, object_layer, object_of, object_with_nulls}
use Rattle.cd_module.specs.declared.fault.LoadFault.{LoadFault}
use Rattle.cd_caddyfile.specs.Shape.{Entry, member, object, list, text_list}

-- ---- steps

-- a step that went on, and what came of it
pub record Went {A B : Type 0} (r : Result A LoadFault) (next : A → Result B LoadFault) (x : B) : Type 0 where
  pub value : A
  pub is : r ≡ Ok value
  pub rest : next value ≡ Ok x

pub went : {A B : Type 0} (r : Result A LoadFault) (next : A → Result B LoadFault) (x : B) → (r ▷ next) ≡ Ok x → Went r next x
went (Ok a) next x h = record { value = a; is = refl; rest = h }
went (Err fault) next x h = cc

pub same_value : {A : Type 0} (x y : A) → ◌≡◌ {A = Result A LoadFault} (Ok x) (Ok y) → x ≡ y
same_value x y e = cc

-- ---- trees

pub out_text : (t : List ℕ) → out-Tree (tree.Text t) ≡ Tree-F.Text t
out_text t = search (rules, the_lemmas)

out_truth : (b : Bool) → out-Tree (tree.Bool b) ≡ Tree-F.Bool b
out_truth b = search (rules, the_lemmas)

pub out_number : (n : Num) → out-Tree (tree.Num n) ≡ Tree-F.Num n
out_number n = search (rules, the_lemmas)

out_list : (ts : List Tree) → out-Tree (list ts) ≡ Tree-F.Items ts
out_list ts = search (rules, the_lemmas)

out_members : (ms : List Member) → out-Tree (tree.Object ms) ≡ Tree-F.Object ms
out_members ms = search (rules, the_lemmas)

pub text_solid : (t : List ℕ) → is_null (tree.Text t) ≡ false
text_solid t = ap null_layer (out_text t)

pub truth_solid : (b : Bool) → is_null (tree.Bool b) ≡ false
truth_solid b = ap null_layer (out_truth b)

pub number_solid : (n : Num) → is_null (tree.Num n) ≡ false
number_solid n = ap null_layer (out_number n)

pub list_solid : (ts : List Tree) → is_null (list ts) ≡ false
list_solid ts = ap null_layer (out_list ts)

pub object_solid : (es : List Entry) → is_null (object es) ≡ false
object_solid es = ap null_layer (out_members _)

-- ---- texts, truth values and lists

pub text_is : (t : List ℕ) (at : Path) → text (tree.Text t) at ≡ Ok t
text_is t at = ap (λ l. text_layer l at) (out_text t)

pub truth_is : (b : Bool) (at : Path) → truth (tree.Bool b) at ≡ Ok b
truth_is b at = ap (λ l. truth_layer l at) (out_truth b)

pub list_is : {X : Type 0} (r : Reader X) (ts : List Tree) (at : Path) → list_of r (list ts) at ≡ each r 0 ts at
list_is r ts at = ap (λ l. list_layer r l at) (out_list ts)

texts_from : (n : ℕ) (all : List (List ℕ)) (at : Path) → each text n (map (λ t. tree.Text t) all) at ≡ Ok all
texts_from n [] at = refl
texts_from n (t ∷ ts) at = rw (text_is t (at ▸ decimal n), texts_from (suc n) ts at) refl

pub texts_are : (all : List (List ℕ)) (at : Path) → list_of text (text_list all) at ≡ Ok all
texts_are all at = list_is text _ at ∙ texts_from 0 all at

pub pattern_is : (t : List ℕ) (at : Path) → pattern (tree.Text t) at ≡ Ok (pattern_of t)
unfolding pattern
pattern_is t at = rw (text_is t at) refl

patterns_from : (n : ℕ) (all : List (List ℕ)) (at : Path) → each pattern n (map (λ t. tree.Text t) all) at ≡ Ok (map pattern_of all)
patterns_from n [] at = refl
patterns_from n (t ∷ ts) at = rw (pattern_is t (at ▸ decimal n), patterns_from (suc n) ts at) refl

pub patterns_are : (all : List (List ℕ)) (at : Path) → list_of pattern (text_list all) at ≡ Ok (map pattern_of all)
patterns_are all at = list_is pattern _ at ∙ patterns_from 0 all at

-- ---- the members of entries

abbrev pub rolled : List Entry → List Member
rolled es = map (λ e. roll-Member (record { key = e.key; value = e.value })) es

-- entries as an object has them
abbrev pub sorted : List Entry → List Entry
sorted es = by_key (λ e. e.key) es

pub out_object : (es : List Entry) → out-Tree (object es) ≡ Tree-F.Object (rolled (sorted es))
out_object es = out_members (rolled (sorted es))

-- the first entry of a name
abbrev pub value_at : List ℕ → List Entry → Option Tree
value_at name [] = None
value_at name (e ∷ es) = if bytes_eq e.key name then Some e.value else value_at name es

-- the first entry that may not be there
abbrev pub stranger : List ℕ → List Entry → Option (List ℕ)
stranger names [] = None
stranger names (e ∷ es) = if is_known names e.key then stranger names es else Some e.key

strangers_are : (names : List ℕ) (es : List Entry) → unknown names (rolled es) ≡ stranger names es
strangers_are names [] = refl
strangers_are names (e ∷ es) =
    ap₂ (λ m o. if is_known names m.key then o else Some m.key) (out-roll-Member (record { key = e.key; value = e.value })) (strangers_are names es)

pub members_are : (names : List ℕ) (es : List Entry) (at : Path) → stranger names (sorted es) ≡ None → members names (object es) at ≡ Ok (rolled (sorted es))
unfolding members
members_are names es at none =
    ap (λ l. result_map_both (λ found. found) of_field (over_layer names l at)) (out_object es)
    ∙ ap (λ o. result_map_both (λ found. found) of_field (unless_unknown o (rolled (sorted es)) at)) (strangers_are names (sorted es) ∙ none)

got : (name : List ℕ) (es : List Entry) (t : Tree) → value_at name es ≡ Some t → is_null t ≡ false → get name (rolled es) ≡ Some t
got name [] t found solid = cc
got name (e ∷ es) t found solid =
    ap (λ m. if bytes_eq m.key name then (if is_null m.value then None else Some m.value) else get name (rolled es)) (out-roll-Member (record { key = e.key; value = e.value }))
    ∙ by (bytes_eq e.key name) found (λ is. got name es t is solid)
  where
    by : (b : Bool) → (if b then Some e.value else value_at name es) ≡ Some t → (value_at name es ≡ Some t → get name (rolled es) ≡ Some t) → (if b then (if is_null e.value then None else Some e.value) else get name (rolled es)) ≡ Some t
    by true is later = let same : e.value ≡ t = cc in rw same (rw solid refl)
    by false is later = later is

not_got : (name : List ℕ) (es : List Entry) → value_at name es ≡ None → get name (rolled es) ≡ None
not_got name [] found = refl
not_got name (e ∷ es) found =
    ap (λ m. if bytes_eq m.key name then (if is_null m.value then None else Some m.value) else get name (rolled es)) (out-roll-Member (record { key = e.key; value = e.value }))
    ∙ by (bytes_eq e.key name) found (λ is. not_got name es is)
  where
    by : (b : Bool) → (if b then Some e.value else value_at name es) ≡ None → (value_at name es ≡ None → get name (rolled es) ≡ None) → (if b then (if is_null e.value then None else Some e.value) else get name (rolled es)) ≡ None
    by true is later = cc
    by false is later = later is

pub there : {X : Type 0} (r : Reader X) (name : List ℕ) (es : List Entry) (at : Path) (t : Tree) → value_at name es ≡ Some t → is_null t ≡ false →
    optional r name (rolled es) at ≡ (r t (at ▸ name) ▷ λ x. Ok (Some x))
unfolding optional
there r name es at t found solid = ap (λ o. where_there r o (at ▸ name)) (got name es t found solid)

pub absent : {X : Type 0} (r : Reader X) (name : List ℕ) (es : List Entry) (at : Path) → value_at name es ≡ None → optional r name (rolled es) at ≡ Ok None
unfolding optional
absent r name es at found = ap (λ o. where_there r o (at ▸ name)) (not_got name es found)

pub needed_there : {X : Type 0} (r : Reader X) (name : List ℕ) (es : List Entry) (at : Path) (t : Tree) → value_at name es ≡ Some t → is_null t ≡ false →
    needed r name (rolled es) at ≡ r t (at ▸ name)
unfolding needed
needed_there r name es at t found solid = ap (λ o. must_be_there r o (at ▸ name)) (got name es t found solid)

pub name_is : (es : List Entry) (at : Path) (name : List ℕ) → value_at (codes "handler") (sorted es) ≡ Some (tree.Text name) → name_of (codes "handler") (object es) at ≡ Ok name
unfolding name_of
name_is es at name found =
    ap (λ l. all_layer l at ▷ λ ms. needed text (codes "handler") ms at) (out_object es)
    ∙ (needed_there text (codes "handler") (sorted es) at (tree.Text name) found (text_solid name) ∙ text_is name _)

-- ---- objects by name

-- no value is null, and no key is `@id`
abbrev pub all_set : List Entry → Bool
all_set es = list_all (λ e. not (is_null e.value) && not (bytes_eq e.key (codes "@id"))) es

-- each entry by a reader that knows its name
abbrev pub each_entry : {X : Type 0} → (List ℕ → Reader X) → List Entry → Path → Result (List X) LoadFault
each_entry r [] at = Ok []
each_entry r (e ∷ es) at = r e.key e.value (at ▸ e.key) ▷ λ x. each_entry r es at ▷ λ xs. Ok (x ∷ xs)

abbrev one_more : {X : Type 0} → Bool → Result X LoadFault → Result (List X) LoadFault → Result (List X) LoadFault
one_more counts first others = if counts then (first ▷ λ x. others ▷ λ xs. Ok (x ∷ xs)) else others

settings_are : {X : Type 0} (r : List ℕ → Reader X) (es : List Entry) (at : Path) → all_set es ≡ true → each_member is_setting r (rolled es) at ≡ each_entry r es at
settings_are r [] at all = refl
settings_are r (e ∷ es) at all =
    ap₂ (λ m o. one_more (not (is_null m.value) && not (bytes_eq m.key (codes "@id"))) (r m.key m.value (at ▸ m.key)) o)
    (out-roll-Member (record { key = e.key; value = e.value })) refl
    ∙ by (not (is_null e.value) && not (bytes_eq e.key (codes "@id"))) all (λ is. settings_are r es at is)
  where
    by : (b : Bool) → (b && all_set es) ≡ true → (all_set es ≡ true → each_member is_setting r (rolled es) at ≡ each_entry r es at) → one_more b (r e.key e.value (at ▸ e.key)) (each_member is_setting r (rolled es) at) ≡ each_entry r (e ∷ es) at
    by true is later = rw (later is) refl
    by false is later = cc

no_ids_are : {X : Type 0} (r : List ℕ → Reader X) (es : List Entry) (at : Path) → all_set es ≡ true → each_member is_no_id r (rolled es) at ≡ each_entry r es at
no_ids_are r [] at all = refl
no_ids_are r (e ∷ es) at all =
    ap₂ (λ m o. one_more (not (bytes_eq m.key (codes "@id"))) (r m.key m.value (at ▸ m.key)) o)
    (out-roll-Member (record { key = e.key; value = e.value })) refl
    ∙ by (is_null e.value) (bytes_eq e.key (codes "@id")) all (λ is. no_ids_are r es at is)
  where
    by : (a b : Bool) → ((not a && not b) && all_set es) ≡ true → (all_set es ≡ true → each_member is_no_id r (rolled es) at ≡ each_entry r es at) → one_more (not b) (r e.key e.value (at ▸ e.key)) (each_member is_no_id r (rolled es) at) ≡ each_entry r (e ∷ es) at
    by false false is later = rw (later is) refl
    by false true is later = cc
    by true b is later = cc

pub entries_are : {X : Type 0} (r : List ℕ → Reader X) (es : List Entry) (at : Path) → all_set (sorted es) ≡ true → object_of r (object es) at ≡ each_entry r (sorted es) at
entries_are r es at all = ap (λ l. object_layer is_setting r l at) (out_object es) ∙ settings_are r (sorted es) at all

pub entries_with_nulls_are : {X : Type 0} (r : List ℕ → Reader X) (es : List Entry) (at : Path) → all_set (sorted es) ≡ true → object_with_nulls r (object es) at ≡ each_entry r (sorted es) at
entries_with_nulls_are r es at all = ap (λ l. object_layer is_no_id r l at) (out_object es) ∙ no_ids_are r (sorted es) at all

-- ---- entries of a list

put_entry : {A : Type 0} (entry : A → Entry) (x : A) (xs : List A) → put_by_key (λ e. e.key) (entry x) (map entry xs) ≡ map entry (put_by_key (λ y. (entry y).key) x xs)
put_entry entry x [] = refl
put_entry entry x (y ∷ ys) = by (key_le (λ z. (entry z).key) x y) (put_entry entry x ys)
  where
    by : (b : Bool) → put_by_key (λ e. e.key) (entry x) (map entry ys) ≡ map entry (put_by_key (λ z. (entry z).key) x ys) →
        (if b then entry x ∷ map entry (y ∷ ys) else entry y ∷ put_by_key (λ e. e.key) (entry x) (map entry ys)) ≡ map entry (if b then x ∷ (y ∷ ys) else y ∷ put_by_key (λ z. (entry z).key) x ys)
    by true is = refl
    by false is = ap (λ l. entry y ∷ l) is

pub sorted_entries : {A : Type 0} (entry : A → Entry) (xs : List A) → sorted (map entry xs) ≡ map entry (by_key (λ y. (entry y).key) xs)
sorted_entries entry [] = refl
sorted_entries entry (x ∷ xs) = ap (put_by_key (λ e. e.key) (entry x)) (sorted_entries entry xs) ∙ put_entry entry x (by_key (λ y. (entry y).key) xs)
