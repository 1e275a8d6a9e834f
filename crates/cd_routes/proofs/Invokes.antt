-- The names that routes invoke, and their places, one after another.
use Rattle.std.proofs.Common.{◌≡◌, ℕ, ◌+◌, ◌<◌, ◌≤◌, List, [], ◌∷◌, ◌++◌, length, map, get_or, drop, refl, rules, sym, ap, ◌∙◌, append_assoc, append-nil, option_map}
use Rattle.std.proofs.lemmas.List.{drop_all, map-append}
use Rattle.cd_tree.proofs.Trees.{drop-element}
use Rattle.cd_handlers.specs.Invoke.{invoked}
use Rattle.cd_handlers.specs.declared.handler.Handler.{Handler}
use Rattle.cd_routes.specs.Invoking.{Names, joined, one_name, route_invokes, step_invokes, routes_invoke, errors_invoke}
use Rattle.cd_routes.specs.declared.route.Route.{Route, out-Route, the_lemmas}
use Rattle.cd_routes.specs.declared.route.Step.TheVariants as step
use Rattle.cd_routes.specs.declared.route.Subroute.{Subroute, out-Subroute}

pub route_invokes_is : (r : Route) → route_invokes r ≡ joined (map step_invokes (out-Route r).handle)
unfolding route_invokes step_invokes
route_invokes_is r = search (rules, the_lemmas)

pub handler_invokes_is : (h : Handler) → step_invokes (step.Handler h) ≡ one_name (invoked h)
unfolding step_invokes
handler_invokes_is h = search (rules, the_lemmas)

pub subroute_invokes_is : (s : Subroute) → step_invokes (step.Subroute s) ≡ routes_invoke (out-Subroute s).routes ++ errors_invoke (out-Subroute s).errors
unfolding route_invokes step_invokes
subroute_invokes_is s = search (rules, the_lemmas)

-- ---- places

-- those of what is left from an element on
abbrev pub left : {X : Type 0} → (List ℕ → ℕ) → (X → Names) → List X → ℕ → List ℕ
left place f xs i = map place (joined (map f (drop i xs)))

split_left : {X : Type 0} (place : List ℕ → ℕ) (f : X → Names) (xs : List X) (i : ℕ) (x : X) → i < length xs → x ≡ get_or xs i x → left place f xs i ≡ map place (f x) ++ left place f xs (i + 1)
split_left place f xs i x within is =
    ap (λ ys. map place (joined (map f ys))) (drop-element xs i x within is) ∙ map-append place (f x) (joined (map f (drop (i + 1) xs)))

-- after one element more
pub places_added : {X : Type 0} (place : List ℕ → ℕ) (f : X → Names) (xs : List X) (i : ℕ) (x : X) (before after : List ℕ) → i < length xs → x ≡ get_or xs i x →
    after ≡ before ++ map place (f x) → after ++ left place f xs (i + 1) ≡ before ++ left place f xs i
places_added place f xs i x before after within is e =
    ap (λ r. r ++ left place f xs (i + 1)) e ∙ append_assoc before (map place (f x)) (left place f xs (i + 1))
    ∙ ap (λ r. before ++ r) (sym (split_left place f xs i x within is))

-- after all
pub places_done : {X : Type 0} (place : List ℕ → ℕ) (f : X → Names) (xs : List X) (i : ℕ) (out all : List ℕ) → length xs ≤ i → out ++ left place f xs i ≡ all → out ≡ all
places_done place f xs i out all end e = sym (append-nil out) ∙ ap (λ ys. out ++ map place (joined (map f ys))) (sym (drop_all i xs end)) ∙ e

-- two values in a row
pub both_added : (place : List ℕ → ℕ) (xs ys : Names) (out one two : List ℕ) → one ≡ out ++ map place xs → two ≡ one ++ map place ys → two ≡ out ++ map place (xs ++ ys)
both_added place xs ys out one two first second =
    second ∙ ap (λ r. r ++ map place ys) first ∙ append_assoc out (map place xs) (map place ys) ∙ ap (λ r. out ++ r) (sym (map-append place xs ys))
