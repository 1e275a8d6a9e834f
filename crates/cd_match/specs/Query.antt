-- Part of the main theorem.
-- The matcher `query`: keys and values of the query (Caddy, JSON Config Structure, http.matchers.query).
use Rattle.std.specs.Prelude.{ℕ, ◌==◌, ◌||◌, Bool, List, [], ◌∷◌, length, codes, unwrap_or, Ok}
use Rattle.std.specs.List.{list_any, list_all}
use Rattle.std.specs.Str.{bytes_eq}
use Rattle.form_urlencoded.specs.Form.{raw_pairs}
use Rattle.cd_text.specs.Steps.{◌▷◌}
use Rattle.cd_fill.specs.declared.scene.Scene.{Scene}
use Rattle.cd_fill.specs.Values.{query_values}
use Rattle.cd_module.specs.Settings.{Reader, text, list_of, object_of}
use Rattle.cd_match.specs.declared.query.KeyTest.{KeyTest}
use Rattle.cd_match.specs.declared.query.QueryMatcher.{QueryMatcher}

-- a member of `query`: a list of texts
unfoldable pub key_test : List ℕ → Reader KeyTest
key_test key t at = list_of text t at ▷ λ values. Ok (record { key = key; values = values })

-- the settings: an object by name
unfoldable pub query_matcher : Reader QueryMatcher
query_matcher t at = object_of key_test t at ▷ λ tests. Ok (record { tests = tests })

-- a value that is listed, and any value where `*` is
abbrev pub is_wanted : List (List ℕ) → List ℕ → Bool
is_wanted listed value = list_any (λ one. bytes_eq one (codes "*") || bytes_eq value one) listed

-- the key has a value that is wanted
unfoldable pub key_passes : List ℕ → KeyTest → Bool
key_passes query test = list_any (is_wanted test.values) (query_values test.key query)

-- each key passes; where there is no key, the query is to have no pairs
abbrev pub keys_pass : List KeyTest → List ℕ → Bool
keys_pass [] query = length (raw_pairs query) == 0
keys_pass (first ∷ others) query = list_all (key_passes query) (first ∷ others)

-- the query passes; one that is absent has no pairs
abbrev pub query_holds : QueryMatcher → Scene → Bool
query_holds matcher x = keys_pass matcher.tests (unwrap_or x.current.query [])
