-- No way to read sees an id, unless it names the member `@id`.
use Rattle.std.proofs.Common.{◌≡◌, ℕ, zero, suc, ◌+◌, List, [], ◌∷◌, map, Bool, true, false, Option, Some, None, Result, Ok, sym, ap, ◌∙◌, refl, arith, rules, decimal, option_map}
use Rattle.std.specs.Prelude.{codes, not, ◌&&◌, if◌then◌else◌}
use Rattle.std.specs.Result.{result_map_both}
use Rattle.std.specs.Str.{bytes_eq}
use Rattle.std.proofs.lemmas.Slice.Eq.{bytes_eq-Decides}
use Rattle.cd_text.specs.Steps.{◌▷◌}
use Rattle.cd_tree.specs.Fields.{over_layer, unknown, unless_unknown, get, unless_null, is_null, null_layer, is_known}
use Rattle.cd_tree.specs.Path.{◌▸◌}
use Rattle.cd_tree.specs.Tree.{depth}
use Rattle.cd_tree.specs.declared.path.Path.{Path}
use Rattle.cd_tree.specs.declared.tree.Member.{Member, out-Member, roll-Member, out-roll-Member}
use Rattle.cd_tree.specs.declared.tree.Tree.{Tree, out-Tree, roll-Tree, roll-out-Tree, out-roll-Tree, the_lemmas}
use Rattle.cd_tree.specs.declared.tree.Tree.TheOpen.{Tree-F}
use Rattle.cd_module.specs.Faults.{of_field}
use Rattle.cd_module.specs.Patterns.{pattern}
use Rattle.cd_module.specs.Recursion.{levels, recursive}
use Rattle.cd_module.specs.Settings.{Reader, text_layer, text, truth_layer, truth, whole_layer, whole, number_or_text_layer, number_or_text, unread_list_layer, unread_list, unread_object_layer, unread_object, each, list_layer, list_of, members, where_there, optional, must_be_there, needed, all_layer, name_of, is_setting, is_no_id, each_member, object_layer, object_of, object_with_nulls}
use Rattle.cd_module.specs.Bare.{no_ids, bare, SeesNoIds}
use Rattle.cd_module.specs.declared.fault.LoadFault.{LoadFault}
use Rattle.cd_module.proofs.Recursion.{Inward, enough, ▷-same}

-- a member whose value has no ids
abbrev pub bare_member : Member → Member
bare_member m = roll-Member (record { key = (out-Member m).key; value = bare (out-Member m).value })

-- what stands in a tree without ids
abbrev pub bare_layer : Tree-F Tree Member → Tree-F Tree Member
bare_layer Tree-F.Null = Tree-F.Null
bare_layer (Tree-F.Bool b) = Tree-F.Bool b
bare_layer (Tree-F.Num n) = Tree-F.Num n
bare_layer (Tree-F.Text t) = Tree-F.Text t
bare_layer (Tree-F.Items items) = Tree-F.Items (map bare items)
bare_layer (Tree-F.Object ms) = Tree-F.Object (no_ids (map bare_member ms))

-- of a value that is put together
bare-roll : (x : Tree-F Tree Member) → bare (roll-Tree x) ≡ roll-Tree (bare_layer x)
bare-roll x = search (rules, the_lemmas)

-- and of one that is taken apart
pub out-bare : (t : Tree) → out-Tree (bare t) ≡ bare_layer (out-Tree t)
out-bare t = ap (λ z. out-Tree (bare z)) (sym (roll-out-Tree t)) ∙ (ap out-Tree (bare-roll (out-Tree t)) ∙ out-roll-Tree (bare_layer (out-Tree t)))

-- ---- values

text-layer : (x : Tree-F Tree Member) (at : Path) → text_layer (bare_layer x) at ≡ text_layer x at
text-layer x at = search rules

pub text-bare : SeesNoIds text
text-bare = record { same = λ t at. ap (λ x. text_layer x at) (out-bare t) ∙ text-layer (out-Tree t) at }

truth-layer : (x : Tree-F Tree Member) (at : Path) → truth_layer (bare_layer x) at ≡ truth_layer x at
truth-layer x at = search rules

pub truth-bare : SeesNoIds truth
truth-bare = record { same = λ t at. ap (λ x. truth_layer x at) (out-bare t) ∙ truth-layer (out-Tree t) at }

whole-layer : (x : Tree-F Tree Member) (at : Path) → whole_layer (bare_layer x) at ≡ whole_layer x at
whole-layer x at = search rules

pub whole-bare : SeesNoIds whole
whole-bare = record { same = λ t at. ap (λ x. whole_layer x at) (out-bare t) ∙ whole-layer (out-Tree t) at }

number-or-text-layer : (x : Tree-F Tree Member) (at : Path) → number_or_text_layer (bare_layer x) at ≡ number_or_text_layer x at
number-or-text-layer x at = search rules

pub number_or_text-bare : SeesNoIds number_or_text
number_or_text-bare = record { same = λ t at. ap (λ x. number_or_text_layer x at) (out-bare t) ∙ number-or-text-layer (out-Tree t) at }

unread-list-layer : (x : Tree-F Tree Member) (at : Path) → unread_list_layer (bare_layer x) at ≡ unread_list_layer x at
unread-list-layer x at = search rules

pub unread_list-bare : SeesNoIds unread_list
unread_list-bare = record { same = λ t at. ap (λ x. unread_list_layer x at) (out-bare t) ∙ unread-list-layer (out-Tree t) at }

unread-object-layer : (x : Tree-F Tree Member) (at : Path) → unread_object_layer (bare_layer x) at ≡ unread_object_layer x at
unread-object-layer x at = search rules

pub unread_object-bare : SeesNoIds unread_object
unread_object-bare = record { same = λ t at. ap (λ x. unread_object_layer x at) (out-bare t) ∙ unread-object-layer (out-Tree t) at }

pub pattern-bare : SeesNoIds pattern
unfolding pattern
pattern-bare = record { same = λ t at. ▷-same _ _ _ _ (text-bare.same t at) (λ written. refl) }

-- ---- lists

each-bare : {X : Type 0} (r : Reader X) → SeesNoIds r → (k : ℕ) (ts : List Tree) (at : Path) → each r k (map bare ts) at ≡ each r k ts at
each-bare r s k [] at = refl
each-bare r s k (t ∷ ts) at =
    ▷-same (r (bare t) (at ▸ decimal k)) (r t (at ▸ decimal k)) _ _ (s.same t (at ▸ decimal k))
    (λ x. ▷-same (each r (suc k) (map bare ts) at) (each r (suc k) ts at) _ _ (each-bare r s (suc k) ts at) (λ xs. refl))

list-layer : {X : Type 0} (r : Reader X) → SeesNoIds r → (x : Tree-F Tree Member) (at : Path) → list_layer r (bare_layer x) at ≡ list_layer r x at
list-layer r s x at = search (rules, each-bare)

pub list_of-bare : {X : Type 0} (r : Reader X) → SeesNoIds r → SeesNoIds (list_of r)
list_of-bare r s = record { same = λ t at. ap (λ x. list_layer r x at) (out-bare t) ∙ list-layer r s (out-Tree t) at }

-- ---- members

null-layer : (x : Tree-F Tree Member) → null_layer (bare_layer x) ≡ null_layer x
null-layer x = search rules

pub is_null-bare : (t : Tree) → is_null (bare t) ≡ is_null t
is_null-bare t = ap null_layer (out-bare t) ∙ null-layer (out-Tree t)

key-bare : (m : Member) → (out-Member (bare_member m)).key ≡ (out-Member m).key
key-bare m = ap (λ z. z.key) (out-roll-Member (record { key = (out-Member m).key; value = bare (out-Member m).value }))

value-bare : (m : Member) → (out-Member (bare_member m)).value ≡ bare (out-Member m).value
value-bare m = ap (λ z. z.value) (out-roll-Member (record { key = (out-Member m).key; value = bare (out-Member m).value }))

-- the first member, for the lemma below
unknown-more : (names key : List ℕ) (b : Bool) (m : Member) (ms : List Member) (rest : Option (List ℕ)) → bytes_eq key (codes "@id") ≡ b → (out-Member m).key ≡ key → unknown names ms ≡ rest
    → unknown names (if not b then (m ∷ ms) else ms) ≡ (if is_known names key then rest else Some key)
unknown-more names key b m ms rest eb ek er = search rules

-- ids are no unknown members
pub unknown-bare : (names : List ℕ) (ms : List Member) → unknown names (no_ids (map bare_member ms)) ≡ unknown names ms
unknown-bare names [] = refl
unknown-bare names (m ∷ ms) =
    unknown-more names (out-Member m).key (bytes_eq (out-Member (bare_member m)).key (codes "@id")) (bare_member m) (no_ids (map bare_member ms)) (unknown names ms) (ap (λ z. bytes_eq z (codes "@id")) (sym (key-bare m))) (key-bare m) (unknown-bare names ms)

-- the value of the name, unless it is null, in both
unless-bare : (b : Bool) (v : Tree) → (if b then None else Some (bare v)) ≡ option_map bare (if b then None else Some v)
unless-bare b v = search rules

unless_null-bare : (v : Tree) → unless_null (bare v) ≡ option_map bare (unless_null v)
unless_null-bare v = ap (λ b. if b then None else Some (bare v)) (is_null-bare v) ∙ unless-bare (is_null v) v

bytes_eq-true : (xs ys : List ℕ) → bytes_eq xs ys ≡ true → xs ≡ ys
bytes_eq-true xs ys e = (bytes_eq-Decides xs ys).0 e

branch : (c : Bool) (v : Tree) (o : Option Tree) → (if c then unless_null (bare v) else option_map bare o) ≡ option_map bare (if c then unless_null v else o)
branch c v o = search (rules, unless_null-bare)

-- the first member, for the lemma below
get-more : (name key : List ℕ) (b : Bool) (m : Member) (v : Tree) (ms : List Member) (o : Option Tree) → bytes_eq key (codes "@id") ≡ b → bytes_eq (codes "@id") name ≡ false → (out-Member m).key ≡ key → (out-Member m).value ≡ bare v → get name ms ≡ option_map bare o
    → get name (if not b then (m ∷ ms) else ms) ≡ option_map bare (if bytes_eq key name then unless_null v else o)
get-more name key b m v ms o eb ne ek ev eo = search (rules, bytes_eq-true, branch)

-- a member of another name than that of ids
pub get-bare : (name : List ℕ) → bytes_eq (codes "@id") name ≡ false → (ms : List Member) → get name (no_ids (map bare_member ms)) ≡ option_map bare (get name ms)
get-bare name ne [] = refl
get-bare name ne (m ∷ ms) =
    get-more name (out-Member m).key (bytes_eq (out-Member (bare_member m)).key (codes "@id")) (bare_member m) (out-Member m).value (no_ids (map bare_member ms)) (get name ms) (ap (λ z. bytes_eq z (codes "@id")) (sym (key-bare m))) ne (key-bare m) (value-bare m) (get-bare name ne ms)

there-bare : {X : Type 0} (r : Reader X) → SeesNoIds r → (o : Option Tree) (at : Path) → where_there r (option_map bare o) at ≡ where_there r o at
there-bare r s o at = search rules

must-bare : {X : Type 0} (r : Reader X) → SeesNoIds r → (o : Option Tree) (at : Path) → must_be_there r (option_map bare o) at ≡ must_be_there r o at
must-bare r s o at = search rules

pub optional-bare : {X : Type 0} (r : Reader X) → SeesNoIds r → (name : List ℕ) → bytes_eq (codes "@id") name ≡ false → (ms : List Member) (at : Path) → optional r name (no_ids (map bare_member ms)) at ≡ optional r name ms at
unfolding optional
optional-bare r s name ne ms at = ap (λ o. where_there r o (at ▸ name)) (get-bare name ne ms) ∙ there-bare r s (get name ms) (at ▸ name)

pub needed-bare : {X : Type 0} (r : Reader X) → SeesNoIds r → (name : List ℕ) → bytes_eq (codes "@id") name ≡ false → (ms : List Member) (at : Path) → needed r name (no_ids (map bare_member ms)) at ≡ needed r name ms at
unfolding needed
needed-bare r s name ne ms at = ap (λ o. must_be_there r o (at ▸ name)) (get-bare name ne ms) ∙ must-bare r s (get name ms) (at ▸ name)

known-bare : {B : Type 0} (o : Option (List ℕ)) (ms : List Member) (at : Path) (k l : List Member → Result B LoadFault) → k (no_ids (map bare_member ms)) ≡ l ms
    → (result_map_both (λ found. found) of_field (unless_unknown o (no_ids (map bare_member ms)) at) ▷ k) ≡ (result_map_both (λ found. found) of_field (unless_unknown o ms at) ▷ l)
known-bare o ms at k l h = search rules

over-bare : {B : Type 0} (names : List ℕ) (x : Tree-F Tree Member) (at : Path) (k l : List Member → Result B LoadFault) → ((ms : List Member) → k (no_ids (map bare_member ms)) ≡ l ms)
    → (result_map_both (λ found. found) of_field (over_layer names (bare_layer x) at) ▷ k) ≡ (result_map_both (λ found. found) of_field (over_layer names x at) ▷ l)
over-bare names x at k l h = search (rules, unknown-bare, known-bare)

-- what is made of an object's members
pub members-bare : {B : Type 0} (names : List ℕ) (t : Tree) (at : Path) (k l : List Member → Result B LoadFault) → ((ms : List Member) → k (no_ids (map bare_member ms)) ≡ l ms) → (members names (bare t) at ▷ k) ≡ (members names t at ▷ l)
unfolding members
members-bare names t at k l h = ap (λ x. result_map_both (λ found. found) of_field (over_layer names x at) ▷ k) (out-bare t) ∙ over-bare names (out-Tree t) at k l h

all-bare : {B : Type 0} (x : Tree-F Tree Member) (at : Path) (k l : List Member → Result B LoadFault) → ((ms : List Member) → k (no_ids (map bare_member ms)) ≡ l ms) → (all_layer (bare_layer x) at ▷ k) ≡ (all_layer x at ▷ l)
all-bare x at k l h = search rules

-- the name of a module
pub name_of-bare : (name : List ℕ) → bytes_eq (codes "@id") name ≡ false → SeesNoIds (name_of name)
unfolding name_of
name_of-bare name ne = search (rules, out-bare, all-bare, needed-bare, text-bare)

-- ---- objects by name

skip : {A : Type 0} (n b : Bool) (x y : A) → b ≡ true → (if not n && not b then x else y) ≡ y
skip n b x y e = search rules

pub if_same : {A : Type 0} (b : Bool) (x y z w : A) → x ≡ y → z ≡ w → (if b then x else z) ≡ (if b then y else w)
if_same b x y z w e f = search rules

-- a member that is read, and then these
abbrev then_these : {X : Type 0} (r : List ℕ → Reader X) → Result (List X) LoadFault → Path → List ℕ → Tree → Result (List X) LoadFault
then_these r rest at key v = r key v (at ▸ key) ▷ λ x. rest ▷ λ xs. Ok (x ∷ xs)

-- the first member, for the lemma below
member-more : {X : Type 0} (r : List ℕ → Reader X) (key : List ℕ) (b : Bool) (m : Member) (v : Tree) (ms : List Member) (at : Path) (rest : Result (List X) LoadFault) → ((name : List ℕ) → SeesNoIds (r name))
    → bytes_eq key (codes "@id") ≡ b → (out-Member m).key ≡ key → (out-Member m).value ≡ bare v → each_member is_setting r ms at ≡ rest
    → each_member is_setting r (if not b then (m ∷ ms) else ms) at ≡ (if not (is_null v) && not (bytes_eq key (codes "@id")) then then_these r rest at key v else rest)
member-more r key b m v ms at rest s eb ek ev er = search (rules, skip, is_null-bare, if_same, ▷-same)

each_member-bare : {X : Type 0} (r : List ℕ → Reader X) → ((name : List ℕ) → SeesNoIds (r name)) → (ms : List Member) (at : Path) → each_member is_setting r (no_ids (map bare_member ms)) at ≡ each_member is_setting r ms at
each_member-bare r s [] at = refl
each_member-bare r s (m ∷ ms) at =
    member-more r (out-Member m).key (bytes_eq (out-Member (bare_member m)).key (codes "@id")) (bare_member m) (out-Member m).value (no_ids (map bare_member ms)) at (each_member is_setting r ms at) s (ap (λ z. bytes_eq z (codes "@id")) (sym (key-bare m))) (key-bare m) (value-bare m) (each_member-bare r s ms at)

object-layer : {X : Type 0} (r : List ℕ → Reader X) → ((name : List ℕ) → SeesNoIds (r name)) → (x : Tree-F Tree Member) (at : Path) → object_layer is_setting r (bare_layer x) at ≡ object_layer is_setting r x at
object-layer r s x at = search (rules, each_member-bare)

-- an object by name
pub object_of-bare : {X : Type 0} (r : List ℕ → Reader X) → ((name : List ℕ) → SeesNoIds (r name)) → SeesNoIds (object_of r)
object_of-bare r s = record { same = λ t at. ap (λ x. object_layer is_setting r x at) (out-bare t) ∙ object-layer r s (out-Tree t) at }

-- ---- objects in which null has a meaning

-- the first member, for the lemma below
kept-more : {X : Type 0} (r : List ℕ → Reader X) (key : List ℕ) (b : Bool) (m : Member) (v : Tree) (ms : List Member) (at : Path) (rest : Result (List X) LoadFault) → ((name : List ℕ) → SeesNoIds (r name))
    → bytes_eq key (codes "@id") ≡ b → (out-Member m).key ≡ key → (out-Member m).value ≡ bare v → each_member is_no_id r ms at ≡ rest
    → each_member is_no_id r (if not b then (m ∷ ms) else ms) at ≡ (if not (bytes_eq key (codes "@id")) then then_these r rest at key v else rest)
kept-more r key b m v ms at rest s eb ek ev er = search rules

each_kept-bare : {X : Type 0} (r : List ℕ → Reader X) → ((name : List ℕ) → SeesNoIds (r name)) → (ms : List Member) (at : Path) → each_member is_no_id r (no_ids (map bare_member ms)) at ≡ each_member is_no_id r ms at
each_kept-bare r s [] at = refl
each_kept-bare r s (m ∷ ms) at =
    kept-more r (out-Member m).key (bytes_eq (out-Member (bare_member m)).key (codes "@id")) (bare_member m) (out-Member m).value (no_ids (map bare_member ms)) at (each_member is_no_id r ms at) s (ap (λ z. bytes_eq z (codes "@id")) (sym (key-bare m))) (key-bare m) (value-bare m) (each_kept-bare r s ms at)

kept-layer : {X : Type 0} (r : List ℕ → Reader X) → ((name : List ℕ) → SeesNoIds (r name)) → (x : Tree-F Tree Member) (at : Path) → object_layer is_no_id r (bare_layer x) at ≡ object_layer is_no_id r x at
kept-layer r s x at = search (rules, each_kept-bare)

-- an object by name in which null has a meaning
pub object_with_nulls-bare : {X : Type 0} (r : List ℕ → Reader X) → ((name : List ℕ) → SeesNoIds (r name)) → SeesNoIds (object_with_nulls r)
object_with_nulls-bare r s = record { same = λ t at. ap (λ x. object_layer is_no_id r x at) (out-bare t) ∙ kept-layer r s (out-Tree t) at }

-- ---- recursion

levels-bare : {X : Type 0} (body : Reader X → Reader X) → ((f : Reader X) → SeesNoIds f → SeesNoIds (body f)) → (n : ℕ) → SeesNoIds (levels body n)
unfolding levels
levels-bare body keeps zero = record { same = λ t at. refl }
levels-bare body keeps (suc n) = record { same = λ t at. (keeps (levels body n) (levels-bare body keeps n)).same t at }

-- where a body sees no ids, its recursion sees none
pub recursive-bare : {X : Type 0} (body : Reader X → Reader X) → Inward body → ((f : Reader X) → SeesNoIds f → SeesNoIds (body f)) → SeesNoIds (recursive body)
unfolding recursive
recursive-bare body inward keeps = record {
  same = λ t at.
      let n = suc (depth t + depth (bare t)) in
      enough body inward (suc (depth (bare t))) n (bare t) at (omega arith) (omega arith) ∙ ((levels-bare body keeps n).same t at ∙ enough body inward n (suc (depth t)) t at (omega arith) (omega arith));
}

-- ---- the law

-- trees that differ in ids alone are read alike
pub alike : {X : Type 0} (r : Reader X) → SeesNoIds r → (t u : Tree) (at : Path) → bare t ≡ bare u → r t at ≡ r u at
alike r s t u at e = sym (s.same t at) ∙ (ap (λ z. r z at) e ∙ s.same u at)
