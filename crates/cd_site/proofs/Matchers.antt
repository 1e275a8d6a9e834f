-- Matchers come to sets that hold where they do.
use Rattle.std.proofs.Common.{◌≡◌, ℕ, Bool, true, false, ◌&&◌, ◌||◌, if◌then◌else◌, List, [], ◌∷◌, ◌++◌, map, Option, Some, None, refl, sym, ap, ap₂, ◌∙◌, rules, unwrap_or}
use Rattle.std.specs.List.{list_any, list_all}
use Rattle.std.specs.Str.{bytes_eq}
use Rattle.cd_text.specs.ByKey.{key_le, put_by_key, by_key}
use Rattle.cd_fill.specs.declared.scene.Scene.{Scene}
use Rattle.cd_fill.specs.Values.{bare_host}
use Rattle.cd_module.specs.Patterns.{pattern_of, fits_in_any_case}
use Rattle.cd_match.specs.Holds as match
use Rattle.cd_match.specs.Holds.{matcher_holds, set_holds}
use Rattle.cd_match.specs.Host.{host_fits, host_holds}
use Rattle.cd_match.specs.Path.{path_holds}
use Rattle.cd_match.specs.Method.{method_holds}
use Rattle.cd_match.specs.Header.{field_passes, header_holds}
use Rattle.cd_match.specs.Query.{key_passes, keys_pass, query_holds}
use Rattle.cd_match.specs.declared.header.HeaderMatcher.{HeaderMatcher}
use Rattle.cd_match.specs.declared.host.HostMatcher.{HostMatcher}
use Rattle.cd_match.specs.declared.method.MethodMatcher.{MethodMatcher}
use Rattle.cd_match.specs.declared.path.PathMatcher.{PathMatcher}
use Rattle.cd_match.specs.declared.query.QueryMatcher.{QueryMatcher}
use Rattle.cd_match.specs.declared.matcher.Matcher.{Matcher, Host, Path as ByPath, Method, Header, Query, the_lemmas}
use Rattle.cd_match.specs.declared.matcher.MatcherSet.{roll-MatcherSet, out-roll-MatcherSet}
use Rattle.cd_caddyfile.specs.Sites.{Wanted, Tests}
use Rattle.cd_site.specs.Answering.{where_given, field_holds, key_holds, all_hold, holds}
use Rattle.cd_site.specs.Settings.{by_name, field_test, key_test, path_pattern, given, header_given, query_given, matchers_of, sets_of}

-- ---- lists

and_true : (b : Bool) → (b && true) ≡ b
and_true true = refl
and_true false = refl

or_false : (b : Bool) → (b || false) ≡ b
or_false true = refl
or_false false = refl

and_assoc : (a b c : Bool) → ((a && b) && c) ≡ (a && (b && c))
and_assoc true b c = refl
and_assoc false b c = refl

and_swap : (a b c : Bool) → (a && (b && c)) ≡ (b && (a && c))
and_swap true true c = refl
and_swap true false c = refl
and_swap false true c = refl
and_swap false false c = refl

all_append : {A : Type 0} (p : A → Bool) (xs ys : List A) → list_all p (xs ++ ys) ≡ (list_all p xs && list_all p ys)
all_append p [] ys = refl
all_append p (x ∷ xs) ys = ap (λ b. p x && b) (all_append p xs ys) ∙ sym (and_assoc (p x) (list_all p xs) (list_all p ys))

all_map : {A B : Type 0} (p : B → Bool) (f : A → B) (xs : List A) → list_all p (map f xs) ≡ list_all (λ x. p (f x)) xs
all_map p f [] = refl
all_map p f (x ∷ xs) = ap (λ b. p (f x) && b) (all_map p f xs)

any_map : {A B : Type 0} (p : B → Bool) (f : A → B) (xs : List A) → list_any p (map f xs) ≡ list_any (λ x. p (f x)) xs
any_map p f [] = refl
any_map p f (x ∷ xs) = ap (λ b. p (f x) || b) (any_map p f xs)

all_put : {A : Type 0} (key : A → List ℕ) (p : A → Bool) (x : A) (xs : List A) → list_all p (put_by_key key x xs) ≡ (p x && list_all p xs)
all_put key p x [] = refl
all_put key p x (y ∷ ys) = go (key_le key x y) (put_by_key key x ys) (all_put key p x ys)
  where
    go : (t : Bool) (zs : List _) → list_all p zs ≡ (p x && list_all p ys) →
        list_all p (if t then x ∷ (y ∷ ys) else y ∷ zs) ≡ (p x && (p y && list_all p ys))
    go true zs is = refl
    go false zs is = ap (λ b. p y && b) is ∙ and_swap (p y) (p x) (list_all p ys)

all_by_key : {A : Type 0} (key : A → List ℕ) (p : A → Bool) (xs : List A) → list_all p (by_key key xs) ≡ list_all p xs
all_by_key key p [] = refl
all_by_key key p (x ∷ xs) = all_put key p x (by_key key xs) ∙ ap (λ b. p x && b) (all_by_key key p xs)

-- ---- each kind

pub host_matcher_is : (x : Scene) (m : HostMatcher) → matcher_holds x (Host m) ≡ host_holds m x
unfolding matcher_holds
host_matcher_is x m = search (rules, the_lemmas)

path_is : (x : Scene) (m : PathMatcher) → matcher_holds x (ByPath m) ≡ path_holds m x
unfolding matcher_holds
path_is x m = search (rules, the_lemmas)

method_is : (x : Scene) (m : MethodMatcher) → matcher_holds x (Method m) ≡ method_holds m x
unfolding matcher_holds
method_is x m = search (rules, the_lemmas)

header_is : (x : Scene) (m : HeaderMatcher) → matcher_holds x (Header m) ≡ header_holds m x
unfolding matcher_holds
header_is x m = search (rules, the_lemmas)

query_is : (x : Scene) (m : QueryMatcher) → matcher_holds x (Query m) ≡ query_holds m x
unfolding matcher_holds
query_is x m = search (rules, the_lemmas)

given_all : (x : Scene) (o : Option (List (List ℕ))) (f : List (List ℕ) → Matcher) (test : List (List ℕ) → Bool) → ((all : List (List ℕ)) → matcher_holds x (f all) ≡ test all) →
    list_all (matcher_holds x) (given o f) ≡ where_given test o
given_all x None f test same = refl
given_all x (Some all) f test same = and_true (matcher_holds x (f all)) ∙ same all

header_all : (x : Scene) (ws : List Wanted) → list_all (matcher_holds x) (header_given ws) ≡ list_all (field_holds x) ws
unfolding field_passes
header_all x [] = refl
header_all x (w ∷ ws) = and_true _ ∙ (header_is x (record { tests = map field_test (by_name (w ∷ ws)) })
    ∙ (all_map (field_passes x) field_test (by_name (w ∷ ws)) ∙ all_by_key (λ one. one.name) (λ one. field_passes x (field_test one)) (w ∷ ws)))

keys_put : (q : List ℕ) (w : Wanted) (ws : List Wanted) → keys_pass (map key_test (put_by_key (λ one. one.name) w ws)) q ≡ list_all (key_passes q) (map key_test (put_by_key (λ one. one.name) w ws))
keys_put q w [] = refl
keys_put q w (v ∷ vs) = go (key_le (λ one. one.name) w v) (put_by_key (λ one. one.name) w vs)
  where
    go : (t : Bool) (zs : List Wanted) → keys_pass (map key_test (if t then w ∷ (v ∷ vs) else v ∷ zs)) q ≡ list_all (key_passes q) (map key_test (if t then w ∷ (v ∷ vs) else v ∷ zs))
    go true zs = refl
    go false zs = refl

query_all : (x : Scene) (ws : List Wanted) → list_all (matcher_holds x) (query_given ws) ≡ list_all (key_holds x) ws
unfolding key_passes
query_all x [] = refl
query_all x (w ∷ ws) = and_true _ ∙ (query_is x (record { tests = map key_test (by_name (w ∷ ws)) })
    ∙ (keys_put (unwrap_or x.current.query []) w (by_name ws)
    ∙ (all_map (key_passes (unwrap_or x.current.query [])) key_test (by_name (w ∷ ws))
    ∙ all_by_key (λ one. one.name) (λ one. key_passes (unwrap_or x.current.query []) (key_test one)) (w ∷ ws))))

path_all : (x : Scene) (all : List (List ℕ)) → matcher_holds x (ByPath (record { patterns = map path_pattern all })) ≡ list_any (λ text. fits_in_any_case (pattern_of text) x.current.path) all
path_all x all = path_is x (record { patterns = map path_pattern all }) ∙ any_map (λ wanted. fits_in_any_case wanted.pattern x.current.path) path_pattern all

matchers_hold : (x : Scene) (t : Tests) → list_all (matcher_holds x) (matchers_of t) ≡ all_hold t x
matchers_hold x t =
    all_append (matcher_holds x) (header_given t.header) _ ∙ ap₂ (λ a b. a && b) (header_all x t.header)
    (all_append (matcher_holds x) (given t.host (λ all. Host (record { patterns = all }))) _ ∙ ap₂ (λ a b. a && b) (given_all x t.host (λ all. Host (record { patterns = all })) (list_any (λ text. host_fits text (bare_host x.host))) (λ all. host_matcher_is x (record { patterns = all })))
    (all_append (matcher_holds x) (given t.method (λ all. Method (record { methods = all }))) _ ∙ ap₂ (λ a b. a && b) (given_all x t.method (λ all. Method (record { methods = all })) (list_any (bytes_eq x.current.method)) (λ all. method_is x (record { methods = all })))
    (all_append (matcher_holds x) (given t.path (λ all. ByPath (record { patterns = map path_pattern all }))) (query_given t.query) ∙ ap₂ (λ a b. a && b) (given_all x t.path (λ all. ByPath (record { patterns = map path_pattern all })) (list_any (λ text. fits_in_any_case (pattern_of text) x.current.path)) (λ all. path_all x all))
    (query_all x t.query))))

pub sets_hold : (m : Option Tests) (x : Scene) → match.holds (sets_of m) x ≡ holds m x
unfolding match.holds
sets_hold None x = refl
sets_hold (Some t) x = or_false (set_holds x (roll-MatcherSet (record { matchers = matchers_of t })))
    ∙ (ap (λ s. list_all (matcher_holds x) s.matchers) (out-roll-MatcherSet (record { matchers = matchers_of t })) ∙ matchers_hold x t)
