-- Tests of the elements of a list, one after another.
use Rattle.std.proofs.Common.{◌≡◌, true, false, Bool, ℕ, ◌+◌, ◌<◌, ◌≤◌, ◌&&◌, ◌||◌, ◌⊎◌, inl, inr, List, [], ◌∷◌, length, get_or, drop, Result, Ok, Err, sym, ap, ◌∙◌, refl}
use Rattle.std.proofs.lemmas.List.{at_drop_more, at_drop_all}
use Rattle.std.specs.List.{list_all, list_any}
use Rattle.std.specs.Prelude.{IfOk}
use Rattle.cd_fill.specs.declared.scene.Scene.{Scene}
use Rattle.cd_match.specs.Holds.{holds, set_holds, some_set_holds}
use Rattle.cd_match.specs.declared.matcher.MatcherSet.{MatcherSet}
use Rattle.cd_match.specs.declared.sets.Sets.{Sets}

second_of : (a b : Bool) → (a && b) ≡ true → b ≡ true
second_of true b is = is
second_of false b is = cc

first_or_second : (a b : Bool) → (a || b) ≡ true → (a ≡ true) ⊎ (b ≡ true)
first_or_second true b is = inl refl
first_or_second false b is = inr is

-- all from one on, so all from the next one on
pub all_later : {A : Type 0} (f : A → Bool) (xs : List A) (i : ℕ) (d : A) → i < length xs → list_all f (drop i xs) ≡ true → list_all f (drop (i + 1) xs) ≡ true
all_later f xs i d within all = second_of (f (get_or xs i d)) (list_all f (drop (i + 1) xs)) (sym (at_drop_more (list_all f) xs i d within) ∙ all)

-- what one that passes gives is known, or one of those left passes
pub one_noted : {A : Type 0} (f : A → Bool) (xs : List A) (i : ℕ) (d : A) (P Q : Type 0) → i < length xs → d ≡ get_or xs i d → (P → Q) → (f d ≡ true → Q) →
    P ⊎ (list_any f (drop i xs) ≡ true) → Q ⊎ (list_any f (drop (i + 1) xs) ≡ true)
one_noted f xs i d P Q within is keeps here (inl before) = inl (keeps before)
one_noted f xs i d P Q within is keeps here (inr some) = elim (first_or_second (f (get_or xs i d)) (list_any f (drop (i + 1) xs)) (sym (at_drop_more (list_any f) xs i d within) ∙ some)) [
  | inl this ↦ inl (here (ap f is ∙ this))
  | inr later ↦ inr later
]

-- none is left
pub last_noted : {A : Type 0} (f : A → Bool) (xs : List A) (i : ℕ) (P : Type 0) → length xs ≤ i → P ⊎ (list_any f (drop i xs) ≡ true) → P
last_noted f xs i P beyond (inl before) = before
last_noted f xs i P beyond (inr some) = let none : false ≡ true = sym (at_drop_all (list_any f) xs i beyond) ∙ some in cc

-- what follows of a value that is there
pub ok_more : {A : Type 0} {E : Type 0} (r : Result A E) (P Q : Type 0) → (P → Q) → IfOk r (λ a. P) → IfOk r (λ a. Q)
ok_more (Ok a) P Q more is = more is
ok_more (Err e) P Q more is = is

-- matchers hold where a set does, if there are any
pub some_set : (x : Scene) (sets : List MatcherSet) → (sets ≡ [] → ⊥) → some_set_holds x sets ≡ true → list_any (set_holds x) sets ≡ true
some_set x [] some is = absurd (some refl)
some_set x (first ∷ others) some is = is

pub holds_some : (matching : Sets) (x : Scene) → (matching.sets ≡ [] → ⊥) → holds matching x ≡ true → list_any (set_holds x) matching.sets ≡ true
unfolding holds
holds_some matching x some is = some_set x matching.sets some is
