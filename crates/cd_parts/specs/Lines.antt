-- The lines of each matcher, for the clauses of private functions.
use Rattle.std.specs.Prelude.{◌≡◌, ℕ, ◌==◌, Bool, List, [], ◌∷◌, map}
use Rattle.std.specs.BTreeMap.{BTreeMap, get}
use Rattle.std.specs.Borrow.{Bor}
use Rattle.std.specs.Option.{option_map_or}
use Rattle.std.specs.Ordering.{nat_cmp}
use Rattle.std.specs.Global.{Vec}
use Rattle.cd_caddyfile.specs.Shape.{set_of}
use Rattle.cd_caddyfile.specs.Sites.{Tests, no_tests}
use Rattle.cd_caddyfile.specs.declared.named.Named.{Named}
use Rattle.cd_caddyfile.specs.declared.named.TestLine.{TestLine}
use Rattle.cd_parts.specs.Making.{and_line}
use Rattle.cd_parts.specs.Measures.{measured}
use Rattle.cd_parts.specs.declared.matchers.NamedSet.{NamedSet}

-- a line is one of the matcher at this line
abbrev pub is_of : ℕ → TestLine → Bool
is_of matcher l = l.matcher == matcher

-- the tests with those of all these lines
abbrev pub and_lines : Tests → List TestLine → Tests
and_lines t [] = t
and_lines t (l ∷ ls) = and_lines (and_line t l.words) ls

-- the lines that a map has for the matcher at this line
abbrev pub lines_at : BTreeMap ℕ (Vec (Bor TestLine)) → ℕ → List TestLine
lines_at found matcher = option_map_or (λ v. map (λ r. r.now) v.items) (get nat_cmp found matcher) []

-- the set of a matcher with these lines
abbrev pub set_from : List TestLine → Named → NamedSet
set_from ls m = record { site = m.site; name = m.name; set = measured (set_of (and_lines no_tests ls)) }
