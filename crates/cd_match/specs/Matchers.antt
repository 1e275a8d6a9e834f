-- Part of the main theorem.
-- The settings of matchers in a tree, and the first fault there.
use Rattle.std.specs.Prelude.{ℕ, List, ◌++◌, codes, Option, Some, None, Ok, Err}
use Rattle.cd_text.specs.Steps.{◌▷◌}
use Rattle.cd_module.specs.Faults.{unknown_module}
use Rattle.cd_module.specs.Recursion.{recursive}
use Rattle.cd_module.specs.Settings.{Reader, list_of, object_of}
use Rattle.cd_match.specs.Host.{host_matcher}
use Rattle.cd_match.specs.Path.{path_matcher}
use Rattle.cd_match.specs.Method.{method_matcher}
use Rattle.cd_match.specs.Header.{header_matcher}
use Rattle.cd_match.specs.Query.{query_matcher}
use Rattle.cd_match.specs.Vars.{vars_matcher}
use Rattle.cd_match.specs.Not.{not_matcher}
use Rattle.cd_match.specs.Names.{kind_named}
use Rattle.cd_match.specs.declared.kind.MatcherKind.{MatcherKind}
use Rattle.cd_match.specs.declared.kind.MatcherKind.TheVariants as kind
use Rattle.cd_match.specs.declared.matcher.Matcher.{Matcher, Host, Path as ByPath, Method, Header, Query, Vars, Not}
use Rattle.cd_match.specs.declared.matcher.MatcherSet.{MatcherSet, roll-MatcherSet}
use Rattle.cd_match.specs.declared.sets.Sets.{Sets}

-- a matcher of a kind; `inner` reads the sets of a `not`
unfoldable pub matcher_of : Reader (List MatcherSet) → MatcherKind → Reader Matcher
matcher_of inner kind.Host t at = host_matcher t at ▷ λ m. Ok (Host m)
matcher_of inner kind.Path t at = path_matcher t at ▷ λ m. Ok (ByPath m)
matcher_of inner kind.Method t at = method_matcher t at ▷ λ m. Ok (Method m)
matcher_of inner kind.Header t at = header_matcher t at ▷ λ m. Ok (Header m)
matcher_of inner kind.Query t at = query_matcher t at ▷ λ m. Ok (Query m)
matcher_of inner kind.Vars t at = vars_matcher t at ▷ λ m. Ok (Vars m)
matcher_of inner kind.Not t at = not_matcher inner t at ▷ λ m. Ok (Not m)

-- the matcher of a name, where there is one
abbrev pub known_matcher : Reader (List MatcherSet) → List ℕ → Option MatcherKind → Reader Matcher
known_matcher inner name None t at = Err (unknown_module (codes "http.matchers." ++ name) at)
known_matcher inner name (Some which) t at = matcher_of inner which t at

-- a matcher by its name
unfoldable pub matcher : Reader (List MatcherSet) → List ℕ → Reader Matcher
matcher inner name t at = known_matcher inner name (kind_named name) t at

-- the matchers of a set by rising name
unfoldable pub matcher_set : Reader (List MatcherSet) → Reader MatcherSet
matcher_set inner t at = object_of (matcher inner) t at ▷ λ matchers. Ok (roll-MatcherSet (record { matchers = matchers }))

-- one level of a list of sets
abbrev pub sets_with : Reader (List MatcherSet) → Reader (List MatcherSet)
sets_with inner = list_of (matcher_set inner)

-- a list of sets, with those of a `not` inside: `sets` is `list_of (matcher_set sets)`, as `sets_are_read_alike` says
unfoldable pub sets : Reader (List MatcherSet)
sets = recursive sets_with

-- a route's `match`
unfoldable pub route_sets : Reader Sets
route_sets t at = sets t at ▷ λ sets. Ok (record { sets = sets })
