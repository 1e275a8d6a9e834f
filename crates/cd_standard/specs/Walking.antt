-- What is inside a matcher and a subroute, what a kind of modules is called, and how many modules there are, for the clauses of
-- private functions.
use Rattle.std.specs.Prelude.{ℕ, ◌≡◌, ◌-◌, ◌^◌, List, ◌++◌, [], codes, length, map, min}
use Rattle.cd_tree.specs.Path.{◌▸◌}
use Rattle.cd_tree.specs.declared.path.Path.{Path}
use Rattle.cd_match.specs.declared.matcher.Matcher.{Matcher, out-Matcher}
use Rattle.cd_match.specs.declared.matcher.Matcher.TheOpen.{Matcher-F}
use Rattle.cd_match.specs.declared.matcher.MatcherSet.{MatcherSet}
use Rattle.cd_match.specs.declared.not.NotMatcher.{NotMatcher, out-NotMatcher}
use Rattle.cd_routes.specs.declared.route.Subroute.{Subroute, out-Subroute}
use Rattle.cd_standard.specs.declared.found.ModuleKind.{ModuleKind}
use Rattle.cd_standard.specs.Plans.{Modules, in_elements, set_modules, routes_modules, errors_modules}

-- the sets of a `not`; no other matcher has modules inside
abbrev pub in_layer : Matcher-F Matcher MatcherSet NotMatcher → Modules
in_layer (Matcher-F.Host m) at = []
in_layer (Matcher-F.Path m) at = []
in_layer (Matcher-F.Method m) at = []
in_layer (Matcher-F.Header m) at = []
in_layer (Matcher-F.Query m) at = []
in_layer (Matcher-F.Vars m) at = []
in_layer (Matcher-F.Not none) at = in_elements 0 (map set_modules (out-NotMatcher none).sets) at

abbrev pub in_matcher : Matcher → Modules
in_matcher m at = in_layer (out-Matcher m) at

-- the routes of a subroute, and then its error routes
abbrev pub in_subroute : Subroute → Modules
in_subroute s at = routes_modules (out-Subroute s).routes (at ▸ codes "routes") ++ errors_modules (out-Subroute s).errors at

-- a kind of modules: its name, and its id in its namespace
abbrev pub module_kind : List ℕ → List ℕ → ModuleKind
module_kind namespace name = record { name = name; id = namespace ++ name }

-- there are so many modules, wherever they are; the count ends at the largest `usize`
abbrev pub Counts : ℕ → Modules → Type 0
Counts n modules = (at : Path) → n ≡ min (length (modules at)) (2 ^ 64 - 1)
