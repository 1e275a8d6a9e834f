-- Where the walk over ids meets nothing that is no id, so it is in each value inside.
use Rattle.std.proofs.Common.{◌≡◌, ℕ, suc, Bool, true, false, not, ◌||◌, List, [], ◌∷◌, ◌++◌, map, Option, Some, None, refl, sym, ap, ap₂, ◌∙◌, subst, rules, decimal, append_assoc}
use Rattle.std.specs.Prelude.{if◌then◌else◌, ◌&&◌, ⊤}
use Rattle.std.specs.List.{list_any, list_all}
use Rattle.std.specs.Str.{bytes_eq}
use Rattle.std.proofs.lemmas.Slice.Eq.{bytes_eq-Decides}
use Rattle.cd_tree.specs.Path.{◌▸◌}
use Rattle.cd_tree.specs.declared.path.Path.{Path}
use Rattle.cd_tree.specs.declared.tree.Member.{Member, roll-Member, out-roll-Member}
use Rattle.cd_tree.specs.declared.tree.Tree as tree
use Rattle.cd_tree.specs.declared.tree.Tree.{Tree, the_lemmas}
use Rattle.cd_ids.specs.Ids.{path_of, or_repeated, first_fault, id_fault}
use Rattle.cd_ids.specs.Walk.{Claim, id, nothing, unfit, Mark, named, wrong, Walk, walk, walk_member, marks, in_elements, in_members, own, claimed, is_id_key}
use Rattle.cd_ids.proofs.Walks.{walk-Items, walk-Object}
use Rattle.cd_caddyfile.specs.Shape.{Entry, object, list}
use Rattle.cd_site.specs.Ids.{is_wrong, are_wrong, HasFitIds}
use Rattle.cd_site.proofs.Objects.{rolled, sorted, value_at}

-- ---- the whole

or_repeated_none : (found : Option Path) (name : List ℕ) (at : Path) (later : Option _) → or_repeated found name at later ≡ None → later ≡ None
or_repeated_none None name at later h = h
or_repeated_none (Some first) name at later h = cc

none_wrong : (before : List (List ℕ × Path)) (ms : List Mark) → first_fault before ms ≡ None → are_wrong ms ≡ false
none_wrong before [] h = refl
none_wrong before (named name at ∷ ms) h = none_wrong (before ++ (name, at) ∷ []) ms (or_repeated_none (path_of name before) name at _ h)
none_wrong before (wrong at ∷ ms) h = cc

pub fit_at_root : (t : Tree) → id_fault t ≡ None → HasFitIds t (record { parts = [] })
fit_at_root t h = none_wrong [] (marks t) h

-- ---- parts

first_part : (a b : List Mark) → are_wrong (a ++ b) ≡ false → are_wrong a ≡ false
first_part [] b h = refl
first_part (named name at ∷ a) b h = first_part a b h
first_part (wrong at ∷ a) b h = cc

second_part : (a b : List Mark) → are_wrong (a ++ b) ≡ false → are_wrong b ≡ false
second_part [] b h = h
second_part (named name at ∷ a) b h = second_part a b h
second_part (wrong at ∷ a) b h = cc

-- ---- lists

-- the same of each element from a place on
abbrev pub HaveFitIds : ℕ → List Tree → Path → Type 0
HaveFitIds n ts at = are_wrong (in_elements n (map walk ts) at) ≡ false

pub in_list : (ts : List Tree) (at : Path) → HasFitIds (list ts) at → HaveFitIds 0 ts at
in_list ts at h = ap are_wrong (sym (walk-Items ts at)) ∙ h

pub first_element : (n : ℕ) (t : Tree) (ts : List Tree) (at : Path) → HaveFitIds n (t ∷ ts) at → HasFitIds t (at ▸ decimal n)
first_element n t ts at h = first_part ((walk t).inside (at ▸ decimal n)) _ h

pub other_elements : (n : ℕ) (t : Tree) (ts : List Tree) (at : Path) → HaveFitIds n (t ∷ ts) at → HaveFitIds (suc n) ts at
other_elements n t ts at h = second_part ((walk t).inside (at ▸ decimal n)) _ h

-- ---- objects

walk_entry : (e : Entry) → walk_member (roll-Member (record { key = e.key; value = e.value })) ≡ (e.key, walk e.value)
walk_entry e = ap (λ m. (m.key, walk m.value)) (out-roll-Member (record { key = e.key; value = e.value }))

abbrev walked : List Entry → List (List ℕ × Walk)
walked es = map (λ e. (e.key, walk e.value)) es

walked_are : (es : List Entry) → map walk_member (rolled es) ≡ walked es
walked_are [] = refl
walked_are (e ∷ es) = ap₂ (λ m ms. m ∷ ms) (walk_entry e) (walked_are es)

-- the same of each entry's value
abbrev pub HaveFitValues : List Entry → Path → Type 0
HaveFitValues es at = are_wrong (in_members (walked es) at) ≡ false

whole : (es : List Entry) (at : Path) → HasFitIds (object es) at → are_wrong (own (walked (sorted es)) at ++ in_members (walked (sorted es)) at) ≡ false
whole es at h = ap (λ ms. are_wrong (own ms at ++ in_members ms at)) (sym (walked_are (sorted es)))
    ∙ (ap are_wrong (sym (walk-Object (rolled (sorted es)) at)) ∙ h)

pub in_object : (es : List Entry) (at : Path) → HasFitIds (object es) at → HaveFitValues (sorted es) at
in_object es at h = second_part (own (walked (sorted es)) at) _ (whole es at h)

pub other_values : (e : Entry) (es : List Entry) (at : Path) → HaveFitValues (e ∷ es) at → HaveFitValues es at
other_values e es at h = second_part (if is_id_key e.key then [] else (walk e.value).inside (at ▸ e.key)) _ h

pub first_value : (e : Entry) (es : List Entry) (at : Path) → is_id_key e.key ≡ false → HaveFitValues (e ∷ es) at → HasFitIds e.value (at ▸ e.key)
first_value e es at other h =
    ap (λ b. are_wrong (if b then [] else (walk e.value).inside (at ▸ e.key))) (sym other) ∙ first_part (if is_id_key e.key then [] else (walk e.value).inside (at ▸ e.key)) _ h

in_both : (xs ys : List Entry) (at : Path) → in_members (walked (xs ++ ys)) at ≡ in_members (walked xs) at ++ in_members (walked ys) at
in_both [] ys at = refl
in_both (e ∷ es) ys at = ap (λ l. (if is_id_key e.key then [] else (walk e.value).inside (at ▸ e.key)) ++ l) (in_both es ys at)
    ∙ sym (append_assoc (if is_id_key e.key then [] else (walk e.value).inside (at ▸ e.key)) (in_members (walked es) at) (in_members (walked ys) at))

pub first_values : (xs ys : List Entry) (at : Path) → HaveFitValues (xs ++ ys) at → HaveFitValues xs at
first_values xs ys at h = first_part (in_members (walked xs) at) _ (ap are_wrong (sym (in_both xs ys at)) ∙ h)

pub other_parts : (xs ys : List Entry) (at : Path) → HaveFitValues (xs ++ ys) at → HaveFitValues ys at
other_parts xs ys at h = second_part (in_members (walked xs) at) _ (ap are_wrong (sym (in_both xs ys at)) ∙ h)

value_in : (name : List ℕ) (es : List Entry) (at : Path) (t : Tree) → is_id_key name ≡ false → value_at name es ≡ Some t → HaveFitValues es at → HasFitIds t (at ▸ name)
value_in name [] at t other found h = cc
value_in name (e ∷ es) at t other found h = by (bytes_eq e.key name) refl found (λ is. value_in name es at t other is (other_values e es at h))
  where
    by : (b : Bool) → bytes_eq e.key name ≡ b → (if b then Some e.value else value_at name es) ≡ Some t → (value_at name es ≡ Some t → HasFitIds t (at ▸ name)) → HasFitIds t (at ▸ name)
    by true same is later =
        let key : e.key ≡ name = (bytes_eq-Decides e.key name).0 same in
        let value : e.value ≡ t = cc in
        subst (λ v. HasFitIds v (at ▸ name)) value (subst (λ k. HasFitIds e.value (at ▸ k)) key (first_value e es at (ap is_id_key key ∙ other) h))
    by false same is later = later is

-- the value of a name
pub in_member : (name : List ℕ) (es : List Entry) (at : Path) (t : Tree) → is_id_key name ≡ false → value_at name (sorted es) ≡ Some t → HasFitIds (object es) at → HasFitIds t (at ▸ name)
in_member name es at t other found h = value_in name (sorted es) at t other found (in_object es at h)

-- ---- objects whose values are no ids

claim_of_list : (ts : List Tree) → (walk (list ts)).claim ≡ unfit
claim_of_list ts = search (rules, the_lemmas)

abbrev pub AreLists : List Entry → Type 0
AreLists [] = ⊤
AreLists (e ∷ es) = (ts : List Tree) × (e.value ≡ list ts) × AreLists es

no_own : (es : List Entry) (at : Path) → AreLists es → are_wrong (own (walked es) at) ≡ false → list_all (λ e. not (is_id_key e.key)) es ≡ true
no_own [] at lists h = refl
no_own (e ∷ es) at lists h = by (is_id_key e.key) h (λ later. no_own es at lists.2 later)
  where
    by : (b : Bool) → are_wrong (if b then claimed (walk e.value).claim at else own (walked es) at) ≡ false → (are_wrong (own (walked es) at) ≡ false → list_all (λ e. not (is_id_key e.key)) es ≡ true) →
        (not b && list_all (λ e. not (is_id_key e.key)) es) ≡ true
    by true is later = let claim : (walk e.value).claim ≡ unfit = ap (λ v. (walk v).claim) lists.1 ∙ claim_of_list lists.0 in
        let bad : true ≡ false = ap (λ c. are_wrong (claimed c at)) (sym claim) ∙ is in cc
    by false is later = later is

-- where all values are lists, no key is `@id`
pub no_id_keys : (es : List Entry) (at : Path) → AreLists (sorted es) → HasFitIds (object es) at → list_all (λ e. not (is_id_key e.key)) (sorted es) ≡ true
no_id_keys es at lists h = no_own (sorted es) at lists (first_part (own (walked (sorted es)) at) _ (whole es at h))
