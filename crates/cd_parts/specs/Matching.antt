-- The sets of matchers.
use Rattle.std.specs.Prelude.{◌≡◌, ℕ, ◌==◌, ◌&&◌, if◌then◌else◌, List, [], ◌∷◌, map, Option, Some, None}
use Rattle.std.specs.Str.{bytes_eq}
use Rattle.cd_caddyfile.specs.Directives.{choice_of}
use Rattle.cd_caddyfile.specs.FileSites.{tests_at}
use Rattle.cd_caddyfile.specs.Shape.{set_of}
use Rattle.cd_caddyfile.specs.Sites.{Tests, no_tests}
use Rattle.cd_caddyfile.specs.declared.choice.Choice.{Choice}
use Rattle.cd_caddyfile.specs.declared.choice.Choice.TheVariants.{Unmatched, Everything, ByPath, ByName}
use Rattle.cd_caddyfile.specs.declared.directive.Directive.{Directive}
use Rattle.cd_caddyfile.specs.declared.named.Matchers.{Matchers}
use Rattle.cd_caddyfile.specs.declared.named.Named.{Named}
use Rattle.cd_caddyfile.specs.declared.named.TestLine.{TestLine}
use Rattle.cd_parts.specs.Measures.{measured}
use Rattle.cd_parts.specs.declared.matchers.NamedSet.{NamedSet}
use Rattle.cd_parts.specs.declared.matchers.SetTable.{SetTable}
use Rattle.cd_parts.specs.declared.measured.Measured.{Measured}

abbrev pub named_set : List TestLine → Named → NamedSet
named_set tested m = record { site = m.site; name = m.name; set = measured (set_of (tests_at m.line no_tests tested)) }

-- the sets of a file's matchers
abbrev pub table_of : Matchers → SetTable
table_of m = record { sets = map (λ d. named_set m.tested d) m.defined; none = measured (set_of no_tests) }

-- the set of the first matcher of the site that has this name, or that of no tests
abbrev pub set_in : Measured → ℕ → List ℕ → List NamedSet → Measured
set_in none site name [] = none
set_in none site name (s ∷ ss) = if s.site == site && bytes_eq s.name name then s.set else set_in none site name ss

abbrev pub set_named : SetTable → ℕ → List ℕ → Measured
set_named table site name = set_in table.none site name table.sets

-- the set that the arguments of a directive choose, where `sets` has those of names
abbrev pub set_chosen : (List ℕ → Measured) → Choice → List (List ℕ) → Option Measured
set_chosen sets choice [] = None
set_chosen sets Unmatched (arg ∷ args) = None
set_chosen sets Everything (arg ∷ args) = None
set_chosen sets ByPath (arg ∷ args) = Some (measured (set_of (record no_tests { path = Some (arg ∷ []) })))
set_chosen sets ByName (arg ∷ args) = Some (sets arg)

abbrev pub set_by : (List ℕ → Measured) → Directive → List (List ℕ) → Option Measured
set_by sets name args = set_chosen sets (choice_of name args) args

-- each set is that of these tests
abbrev pub Agrees : (List ℕ → Measured) → (List ℕ → Tests) → Type 0
Agrees sets tests_of = (name : List ℕ) → sets name ≡ measured (set_of (tests_of name))
