-- The modules of one element or member more.
use Rattle.std.proofs.Common.{◌≡◌, ℕ, ◌+◌, ◌<◌, List, [], ◌∷◌, ◌++◌, length, map, get_or, drop, sym, ap, ◌∙◌, add-one, append_assoc, append-nil, ◌≤◌, ap₂}
use Rattle.std.specs.Prelude.{decimal}
use Rattle.std.specs.List.{flat_map}
use Rattle.std.proofs.lemmas.List.{drop_all}
use Rattle.std.proofs.lemmas.List.Concat.{flat_map-cons}
use Rattle.cd_tree.specs.Path.{◌▸◌}
use Rattle.cd_tree.specs.declared.path.Path.{Path}
use Rattle.cd_tree.proofs.Trees.{drop-element}
use Rattle.cd_standard.specs.Plans.{Modules, in_elements, planned}
use Rattle.cd_legal.specs.declared.plan.PlanModule.{PlanModule}

-- what is left of the elements from a place on
abbrev pub elements_left : {X : Type 0} → (X → Modules) → List X → ℕ → Modules
elements_left f xs place at = in_elements place (map f (drop place xs)) at

pub split_elements : {X : Type 0} (f : X → Modules) (xs : List X) (i : ℕ) (x : X) (at : Path) → i < length xs → x ≡ get_or xs i x
    → elements_left f xs i at ≡ f x (at ▸ decimal i) ++ elements_left f xs (i + 1) at
split_elements f xs i x at within is =
    ap (λ ys. in_elements i (map f ys) at) (drop-element xs i x within is)
    ∙ ap (λ n. f x (at ▸ decimal i) ++ in_elements n (map f (drop (i + 1) xs)) at) (sym (add-one i))

-- after one element more
pub element_added : {X : Type 0} (f : X → Modules) (xs : List X) (i : ℕ) (x : X) (at : Path) (before after : List PlanModule) → i < length xs → x ≡ get_or xs i x
    → after ≡ before ++ f x (at ▸ decimal i) → after ++ elements_left f xs (i + 1) at ≡ before ++ elements_left f xs i at
element_added f xs i x at before after within is e =
    ap (λ r. r ++ elements_left f xs (i + 1) at) e ∙ append_assoc before (f x (at ▸ decimal i)) (elements_left f xs (i + 1) at)
    ∙ ap (λ r. before ++ r) (sym (split_elements f xs i x at within is))

-- the same of what has no places
pub member_added : {X : Type 0} (f : X → List PlanModule) (xs : List X) (i : ℕ) (x : X) (before after : List PlanModule) → i < length xs → x ≡ get_or xs i x
    → after ≡ before ++ f x → after ++ flat_map f (drop (i + 1) xs) ≡ before ++ flat_map f (drop i xs)
member_added f xs i x before after within is e =
    ap (λ r. r ++ flat_map f (drop (i + 1) xs)) e ∙ append_assoc before (f x) (flat_map f (drop (i + 1) xs))
    ∙ ap (λ r. before ++ r) (sym (ap (flat_map f) (drop-element xs i x within is) ∙ flat_map-cons f x (drop (i + 1) xs)))

-- after all
pub members_done : {X : Type 0} (f : X → List PlanModule) (xs : List X) (i : ℕ) (out all : List PlanModule) → length xs ≤ i → out ++ flat_map f (drop i xs) ≡ all → out ≡ all
members_done f xs i out all end e = sym (append-nil out) ∙ ap (λ ys. out ++ flat_map f ys) (sym (drop_all i xs end)) ∙ e

-- a module and then what is inside it
pub module_and_inside : (inside : Path → List PlanModule) (out one two : List PlanModule) (id to : List ℕ) (at there : Path) → one ≡ out ++ planned id at ∷ [] → two ≡ one ++ inside at
    → id ≡ to → at ≡ there → two ≡ out ++ (planned to there ∷ inside there)
module_and_inside inside out one two id to at there first second l p =
    second ∙ ap (λ r. r ++ inside at) first ∙ append_assoc out (planned id at ∷ []) (inside at) ∙ ap₂ (λ x y. out ++ (planned x y ∷ inside y)) l p

-- two values in a row
pub two_added : (f g : Path → List PlanModule) (out one two : List PlanModule) (at there : Path) → one ≡ out ++ f at → there ≡ at → two ≡ one ++ g there → two ≡ out ++ (f at ++ g at)
two_added f g out one two at there first p second =
    second ∙ ap (λ r. r ++ g there) first ∙ ap (λ y. (out ++ f at) ++ g y) p ∙ append_assoc out (f at) (g at)
