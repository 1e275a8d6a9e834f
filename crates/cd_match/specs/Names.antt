-- Part of the main theorem.
-- The names of matchers (Caddy, JSON Config Structure, http.matchers).
use Rattle.std.specs.Prelude.{ℕ, List, [], ◌∷◌, codes, Option}
use Rattle.std.specs.List.{find}
use Rattle.std.specs.Str.{bytes_eq}
use Rattle.cd_match.specs.declared.kind.MatcherKind.{MatcherKind}
use Rattle.cd_match.specs.declared.kind.MatcherKind.TheVariants.{Host, Path, Method, Header, Query, Vars, Not}
use Rattle.cd_match.specs.declared.matcher.Matcher.{Matcher, out-Matcher}
use Rattle.cd_match.specs.declared.matcher.Matcher.TheOpen.{Matcher-F}

-- the name of each
unfoldable pub kind_name : MatcherKind → List ℕ
kind_name Host = codes "host"
kind_name Path = codes "path"
kind_name Method = codes "method"
kind_name Header = codes "header"
kind_name Query = codes "query"
kind_name Vars = codes "vars"
kind_name Not = codes "not"

abbrev pub kinds : List MatcherKind
kinds = Host ∷ Path ∷ Method ∷ Header ∷ Query ∷ Vars ∷ Not ∷ []

-- the one with that name
unfoldable pub kind_named : List ℕ → Option MatcherKind
kind_named name = find (λ kind. bytes_eq (kind_name kind) name) kinds

abbrev pub kind_layer : {A B C : Type 0} → Matcher-F A B C → MatcherKind
kind_layer (Matcher-F.Host m) = Host
kind_layer (Matcher-F.Path m) = Path
kind_layer (Matcher-F.Method m) = Method
kind_layer (Matcher-F.Header m) = Header
kind_layer (Matcher-F.Query m) = Query
kind_layer (Matcher-F.Vars m) = Vars
kind_layer (Matcher-F.Not m) = Not

-- which one a matcher is
abbrev pub kind_of : Matcher → MatcherKind
kind_of m = kind_layer (out-Matcher m)

-- its name
abbrev pub matcher_name : Matcher → List ℕ
matcher_name m = kind_name (kind_of m)
