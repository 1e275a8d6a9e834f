-- Where names are among names with their values, before and after a value more.
use Rattle.std.proofs.Common.{◌≡◌, ℕ, zero, suc, ◌<◌, Bool, true, false, cond, if◌then◌else◌, List, [], ◌∷◌, ◌++◌, length, get_or, refl, sym, ap, subst, ◌∙◌, arith, Option, Some, None}
use Rattle.std.specs.Prelude.{slice_set, option_map}
use Rattle.std.specs.BTreeMap as tree
use Rattle.std.specs.BTreeMap.{BTreeMap}
use Rattle.std.specs.Borrow.{Bor}
use Rattle.std.specs.Cmp.Lexicographic.{slice_cmp}
use Rattle.std.specs.Ordering.{nat_cmp}
use Rattle.std.specs.Str.{bytes_eq}
use Rattle.std.proofs.lemmas.Bool.{false≢true}
use Rattle.std.proofs.lemmas.Map.Text.{btree_map_updates_str}
use Rattle.std.proofs.lemmas.Option.{none-some}
use Rattle.std.proofs.lemmas.Slice.Eq.{bytes_eq-Decides}
use Rattle.cd_caddyfile.specs.Matchers.{with_value}
use Rattle.cd_caddyfile.specs.Sites.{Wanted}
use Rattle.cd_parts.specs.Places.{place_of, place_in}

-- ---- places one further

next_some : (o : Option ℕ) (n : ℕ) → option_map suc o ≡ Some (suc n) → o ≡ Some n
next_some None n is = absurd (none-some (suc n) is)
next_some (Some m) n is = grind arith

next_first : (o : Option ℕ) → option_map suc o ≡ Some 0 → ⊥
next_first None is = none-some 0 is
next_first (Some m) is = grind arith

next_none : (o : Option ℕ) → option_map suc o ≡ None → o ≡ None
next_none None is = refl
next_none (Some m) is = absurd (none-some (suc m) (sym is))

-- ---- a name that is there

within_step : (here : Bool) (o : Option ℕ) (at n : ℕ) → (if here then Some 0 else option_map suc o) ≡ Some at → ((k : ℕ) → o ≡ Some k → k < n) → at < suc n
within_step here o zero n is known = omega arith
within_step true o (suc k) n is known = absurd (grind arith)
within_step false o (suc k) n is known = omega (arith, known k (next_some o k is))

-- it is at a place among them
pub place_within : (name : List ℕ) (ws : List Wanted) (at : ℕ) → place_of name ws ≡ Some at → at < length ws
place_within name [] at is = absurd (none-some at is)
place_within name (w ∷ ws) at is = within_step (bytes_eq w.name name) (place_of name ws) at (length ws) is (λ k. place_within name ws k)

abbrev WithValues : Wanted → List (List ℕ) → Wanted
WithValues w values = record { name = w.name; values = values }

put_step : (here : Bool) (name value : List ℕ) (x : Wanted) (xs : List Wanted) (at : ℕ) (w : Wanted) (values : List (List ℕ)) →
    (if here then Some 0 else option_map suc (place_of name xs)) ≡ Some at → w ≡ get_or (x ∷ xs) at w → values ≡ w.values ++ value ∷ [] →
    ((k : ℕ) → place_of name xs ≡ Some k → w ≡ get_or xs k w → slice_set xs k (WithValues w values) ≡ with_value name value xs) →
    slice_set (x ∷ xs) at (WithValues w values) ≡ (if here then record x { values = x.values ++ value ∷ [] } ∷ xs else x ∷ with_value name value xs)
put_step true name value x xs zero w values is one more known =
    ap (λ vs. WithValues w vs ∷ xs) more ∙ ap (λ (z : Wanted). WithValues z (z.values ++ value ∷ []) ∷ xs) one
put_step true name value x xs (suc k) w values is one more known = absurd (grind arith)
put_step false name value x xs zero w values is one more known = absurd (next_first (place_of name xs) is)
put_step false name value x xs (suc k) w values is one more known = ap (λ l. x ∷ l) (known k (next_some (place_of name xs) k is) one)

-- the value goes to the values at that place
pub value_put : (name value : List ℕ) (ws : List Wanted) (at : ℕ) (w : Wanted) (values : List (List ℕ)) → place_of name ws ≡ Some at → w ≡ get_or ws at w →
    values ≡ w.values ++ value ∷ [] → slice_set ws at (WithValues w values) ≡ with_value name value ws
value_put name value [] at w values is one more = absurd (none-some at is)
value_put name value (x ∷ xs) at w values is one more =
    put_step (bytes_eq x.name name) name value x xs at w values is one more (λ k here same. value_put name value xs k w values here same more)

-- all places stay
pub places_kept : (ws : List Wanted) (at : ℕ) (w : Wanted) (values : List (List ℕ)) → w ≡ get_or ws at w → (q : List ℕ) →
    place_of q (slice_set ws at (WithValues w values)) ≡ place_of q ws
places_kept [] at w values one q = refl
places_kept (x ∷ xs) zero w values one q = ap (λ (z : Wanted). if bytes_eq z.name q then Some 0 else option_map suc (place_of q xs)) one
places_kept (x ∷ xs) (suc k) w values one q = ap (λ o. if bytes_eq x.name q then Some 0 else option_map suc o) (places_kept xs k w values one q)

-- ---- a name that is not there

new_step : (here : Bool) (name value : List ℕ) (x : Wanted) (xs : List Wanted) → (if here then Some 0 else option_map suc (place_of name xs)) ≡ None →
    (place_of name xs ≡ None → xs ++ record { name = name; values = value ∷ [] } ∷ [] ≡ with_value name value xs) →
    x ∷ (xs ++ record { name = name; values = value ∷ [] } ∷ []) ≡ (if here then record x { values = x.values ++ value ∷ [] } ∷ xs else x ∷ with_value name value xs)
new_step true name value x xs is known = absurd (none-some 0 (sym is))
new_step false name value x xs is known = ap (λ l. x ∷ l) (known (next_none (place_of name xs) is))

-- the name with its value goes to the end
pub name_put : (name value : List ℕ) (ws : List Wanted) → place_of name ws ≡ None → ws ++ record { name = name; values = value ∷ [] } ∷ [] ≡ with_value name value ws
name_put name value [] is = refl
name_put name value (x ∷ xs) is = new_step (bytes_eq x.name name) name value x xs is (name_put name value xs)

apart : (a b c : List ℕ) → bytes_eq a b ≡ false → bytes_eq a c ≡ true → bytes_eq b c ≡ true → ⊥
apart a b c differ one other =
    false≢true (sym differ ∙ (bytes_eq-Decides a b).1 ((bytes_eq-Decides a c).0 one ∙ sym ((bytes_eq-Decides b c).0 other)))

-- the place of q among an element and others
abbrev Beside : Bool → Option ℕ → Option ℕ
Beside first o = if first then Some 0 else option_map suc o

beside : (first found : Bool) (o : Option ℕ) (n : ℕ) → (first ≡ true → found ≡ true → ⊥) → Beside first (cond found (Some n) o) ≡ cond found (Some (suc n)) (Beside first o)
beside true true o n never = absurd (never refl refl)
beside true false o n never = refl
beside false true o n never = refl
beside false false o n never = refl

added_step : (here : Bool) (name value q : List ℕ) (x : Wanted) (xs : List Wanted) → bytes_eq x.name name ≡ here → (if here then Some 0 else option_map suc (place_of name xs)) ≡ None →
    (place_of name xs ≡ None → place_of q (with_value name value xs) ≡ cond (bytes_eq name q) (Some (length xs)) (place_of q xs)) →
    place_of q (if here then record x { values = x.values ++ value ∷ [] } ∷ xs else x ∷ with_value name value xs) ≡ cond (bytes_eq name q) (Some (suc (length xs))) (place_of q (x ∷ xs))
added_step true name value q x xs e is known = absurd (none-some 0 (sym is))
added_step false name value q x xs e is known =
    ap (Beside (bytes_eq x.name q)) (known (next_none (place_of name xs) is))
    ∙ beside (bytes_eq x.name q) (bytes_eq name q) (place_of q xs) (length xs) (apart x.name name q e)

first_of : (here : Bool) → Beside here None ≡ cond here (Some 0) None
first_of true = refl
first_of false = refl

-- the others' places stay
added : (name value q : List ℕ) (ws : List Wanted) → place_of name ws ≡ None → place_of q (with_value name value ws) ≡ cond (bytes_eq name q) (Some (length ws)) (place_of q ws)
added name value q [] is = first_of (bytes_eq name q)
added name value q (x ∷ xs) is = added_step (bytes_eq x.name name) name value q x xs refl is (added name value q xs)

pub places_added : (name value : List ℕ) (ws new : List Wanted) (m n : BTreeMap (Bor (List ℕ)) ℕ) (count : ℕ) → ((q : List ℕ) → place_in m q ≡ place_of q ws) →
    place_of name ws ≡ None → count ≡ length ws → tree.UpdatesBy (λ x y. slice_cmp nat_cmp x.now y.now) (λ k. slice_cmp nat_cmp name k.now) m n (Some count) →
    new ≡ with_value name value ws → (q : List ℕ) → place_in n q ≡ place_of q new
places_added name value ws new m n count known is all updates made q =
    btree_map_updates_str name m n (Some count) updates q
    ∙ (ap (λ o. cond (bytes_eq name q) (Some count) o) (known q)
    ∙ (ap (λ (k : ℕ). cond (bytes_eq name q) (Some k) (place_of q ws)) all ∙ (sym (added name value q ws is) ∙ ap (place_of q) (sym made))))
