-- Part of the main theorem.
-- Whether a route's matchers hold (Caddy, JSON Config Structure, http.matchers).
use Rattle.std.specs.Prelude.{Bool, true, List, [], ◌∷◌}
use Rattle.std.specs.List.{list_all, list_any}
use Rattle.cd_fill.specs.declared.scene.Scene.{Scene}
use Rattle.cd_match.specs.Host.{host_holds}
use Rattle.cd_match.specs.Path.{path_holds}
use Rattle.cd_match.specs.Method.{method_holds}
use Rattle.cd_match.specs.Header.{header_holds}
use Rattle.cd_match.specs.Query.{query_holds}
use Rattle.cd_match.specs.Vars.{vars_hold}
use Rattle.cd_match.specs.Not.{none_holds}
use Rattle.cd_match.specs.declared.matcher.Matcher.{Matcher, fold-Matcher}
use Rattle.cd_match.specs.declared.matcher.Matcher.TheOpen.{Matcher-F}
use Rattle.cd_match.specs.declared.matcher.MatcherSet.{MatcherSet, out-MatcherSet}
use Rattle.cd_match.specs.declared.sets.Sets.{Sets}

-- one matcher, with what holds of the sets of a `not` in its place
abbrev pub matches : Scene → Matcher-F Bool Bool Bool → Bool
matches x (Matcher-F.Host matcher) = host_holds matcher x
matches x (Matcher-F.Path matcher) = path_holds matcher x
matches x (Matcher-F.Method matcher) = method_holds matcher x
matches x (Matcher-F.Header matcher) = header_holds matcher x
matches x (Matcher-F.Query matcher) = query_holds matcher x
matches x (Matcher-F.Vars matcher) = vars_hold matcher x
matches x (Matcher-F.Not holds) = holds

-- a matcher holds
unfoldable pub matcher_holds : Scene → Matcher → Bool
matcher_holds x = fold-Matcher Bool Bool Bool (matches x) (λ set. list_all (λ holds. holds) set.matchers) (λ none. none_holds none.sets)

-- a set holds where all its matchers hold
abbrev pub set_holds : Scene → MatcherSet → Bool
set_holds x set = list_all (matcher_holds x) (out-MatcherSet set).matchers

-- some set holds, or there is none
abbrev pub some_set_holds : Scene → List MatcherSet → Bool
some_set_holds x [] = true
some_set_holds x (first ∷ others) = list_any (set_holds x) (first ∷ others)

-- a route is taken where one of its sets holds; without sets it always is
unfoldable pub holds : Sets → Scene → Bool
holds route x = some_set_holds x route.sets
