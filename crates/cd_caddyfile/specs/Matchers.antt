-- Part of the main theorem.
-- Matchers: what a line `KIND ARGS` adds to one.
use Rattle.std.specs.Prelude.{ℕ, ◌==◌, Bool, if◌then◌else◌, List, [], ◌∷◌, ◌++◌, codes, Option, Some, None, option_map, unwrap_or}
use Rattle.std.specs.List.{list_any, before_first, after_first}
use Rattle.std.specs.Str.{bytes_eq}
use Rattle.cd_caddyfile.specs.Sites.{Wanted, Tests}

-- a value more for a name
abbrev pub with_value : List ℕ → List ℕ → List Wanted → List Wanted
with_value name value [] = record { name = name; values = value ∷ [] } ∷ []
with_value name value (w ∷ ws) =
    if bytes_eq w.name name then record w { values = w.values ++ value ∷ [] } ∷ ws else w ∷ with_value name value ws

-- one argument or more, after those of lines before
abbrev pub some_more : Option (List (List ℕ)) → List (List ℕ) → Option (List (List ℕ))
some_more before [] = None
some_more before (arg ∷ args) = Some (unwrap_or before [] ++ arg ∷ args)

-- `FIELD VALUE`
abbrev pub field_test : Tests → List (List ℕ) → Option Tests
field_test t [] = None
field_test t (name ∷ []) = None
field_test t (name ∷ value ∷ []) = Some (record t { header = with_value name value t.header })
field_test t (name ∷ value ∷ other ∷ others) = None

abbrev pub is_equals : ℕ → Bool
is_equals b = b == 61

-- `KEY=VALUE`
abbrev pub key_test : Tests → List (List ℕ) → Option Tests
key_test t [] = None
key_test t (pair ∷ []) =
    if list_any is_equals pair then Some (record t { query = with_value (before_first is_equals pair) (after_first is_equals pair) t.query }) else None
key_test t (pair ∷ other ∷ others) = None

abbrev pub kind_and_args : Tests → List ℕ → List (List ℕ) → Option Tests
kind_and_args t kind args =
    if bytes_eq kind (codes "path") then option_map (λ all. record t { path = Some all }) (some_more t.path args) else
    (if bytes_eq kind (codes "method") then option_map (λ all. record t { method = Some all }) (some_more t.method args) else
    (if bytes_eq kind (codes "host") then option_map (λ all. record t { host = Some all }) (some_more t.host args) else
    (if bytes_eq kind (codes "header") then field_test t args else
    (if bytes_eq kind (codes "query") then key_test t args else None))))

-- the tests with those of one more line
abbrev pub with_line : Tests → List (List ℕ) → Option Tests
with_line t [] = None
with_line t (kind ∷ args) = kind_and_args t kind args
