-- Ids make no difference to matchers.
use Rattle.std.proofs.Common.{◌≡◌, ℕ, List, refl, ap, ◌∙◌, Bool, Option, Some, None, Result}
use Rattle.std.specs.Prelude.{if◌then◌else◌}
use Rattle.cd_module.specs.Bare.{SeesNoIds}
use Rattle.cd_module.specs.Patterns.{pattern}
use Rattle.cd_module.specs.Settings.{Reader, text}
use Rattle.cd_module.specs.declared.fault.LoadFault.{LoadFault}
use Rattle.cd_module.proofs.Recursion.{▷-same}
use Rattle.cd_module.proofs.Bare.{is_null-bare, text-bare, pattern-bare, list_of-bare, object_of-bare, object_with_nulls-bare, recursive-bare}
use Rattle.cd_match.specs.Host.{host_matcher}
use Rattle.cd_match.specs.Path.{path_pattern, path_matcher}
use Rattle.cd_match.specs.Method.{method_matcher}
use Rattle.cd_match.specs.Header.{field_test, header_matcher}
use Rattle.cd_match.specs.Query.{key_test, query_matcher}
use Rattle.cd_match.specs.Vars.{variable_test, vars_matcher}
use Rattle.cd_match.specs.Not.{not_matcher}
use Rattle.cd_match.specs.Names.{kind_named}
use Rattle.cd_match.specs.Matchers.{matcher_of, known_matcher, matcher, matcher_set, sets_with, sets, route_sets}
use Rattle.cd_match.specs.declared.kind.MatcherKind.{MatcherKind}
use Rattle.cd_match.specs.declared.kind.MatcherKind.TheVariants as kind
use Rattle.cd_match.specs.declared.matcher.MatcherSet.{MatcherSet}
use Rattle.cd_match.proofs.Alike.{sets-inward}

-- ---- matchers

host_matcher-bare : SeesNoIds host_matcher
unfolding host_matcher
host_matcher-bare = record { same = λ t at. ▷-same _ _ _ _ ((list_of-bare text text-bare).same t at) (λ patterns. refl) }

path_pattern-bare : SeesNoIds path_pattern
unfolding path_pattern
path_pattern-bare = record { same = λ t at. ▷-same _ _ _ _ (pattern-bare.same t at) (λ written. refl) }

path_matcher-bare : SeesNoIds path_matcher
unfolding path_matcher
path_matcher-bare = record { same = λ t at. ▷-same _ _ _ _ ((list_of-bare path_pattern path_pattern-bare).same t at) (λ patterns. refl) }

method_matcher-bare : SeesNoIds method_matcher
unfolding method_matcher
method_matcher-bare = record { same = λ t at. ▷-same _ _ _ _ ((list_of-bare text text-bare).same t at) (λ methods. refl) }

-- where it is null there is nothing to read
unless : {X : Type 0} (b c : Bool) (x y z : Result X LoadFault) → b ≡ c → y ≡ z → (if b then x else y) ≡ (if c then x else z)
unless b c x y z e f = ap (λ w. if w then x else y) e ∙ ap (λ w. if c then x else w) f

field_test-bare : (name : List ℕ) → SeesNoIds (field_test name)
unfolding field_test
field_test-bare name = record {
  same = λ t at. unless _ _ _ _ _ (is_null-bare t) (▷-same _ _ _ _ ((list_of-bare pattern pattern-bare).same t at) (λ patterns. refl));
}

header_matcher-bare : SeesNoIds header_matcher
unfolding header_matcher
header_matcher-bare = record { same = λ t at. ▷-same _ _ _ _ ((object_with_nulls-bare field_test field_test-bare).same t at) (λ tests. refl) }

key_test-bare : (key : List ℕ) → SeesNoIds (key_test key)
unfolding key_test
key_test-bare key = record { same = λ t at. ▷-same _ _ _ _ ((list_of-bare text text-bare).same t at) (λ values. refl) }

query_matcher-bare : SeesNoIds query_matcher
unfolding query_matcher
query_matcher-bare = record { same = λ t at. ▷-same _ _ _ _ ((object_of-bare key_test key_test-bare).same t at) (λ tests. refl) }

variable_test-bare : (key : List ℕ) → SeesNoIds (variable_test key)
unfolding variable_test
variable_test-bare key = record { same = λ t at. ▷-same _ _ _ _ ((list_of-bare text text-bare).same t at) (λ values. refl) }

vars_matcher-bare : SeesNoIds vars_matcher
unfolding vars_matcher
vars_matcher-bare = record { same = λ t at. ▷-same _ _ _ _ ((object_of-bare variable_test variable_test-bare).same t at) (λ tests. refl) }

not_matcher-bare : (inner : Reader (List MatcherSet)) → SeesNoIds inner → SeesNoIds (not_matcher inner)
unfolding not_matcher
not_matcher-bare inner s = record { same = λ t at. ▷-same _ _ _ _ (s.same t at) (λ sets. refl) }

matcher_of-bare : (inner : Reader (List MatcherSet)) → SeesNoIds inner → (which : MatcherKind) → SeesNoIds (matcher_of inner which)
unfolding matcher_of
matcher_of-bare inner s kind.Host = record { same = λ t at. ▷-same _ _ _ _ (host_matcher-bare.same t at) (λ m. refl) }
matcher_of-bare inner s kind.Path = record { same = λ t at. ▷-same _ _ _ _ (path_matcher-bare.same t at) (λ m. refl) }
matcher_of-bare inner s kind.Method = record { same = λ t at. ▷-same _ _ _ _ (method_matcher-bare.same t at) (λ m. refl) }
matcher_of-bare inner s kind.Header = record { same = λ t at. ▷-same _ _ _ _ (header_matcher-bare.same t at) (λ m. refl) }
matcher_of-bare inner s kind.Query = record { same = λ t at. ▷-same _ _ _ _ (query_matcher-bare.same t at) (λ m. refl) }
matcher_of-bare inner s kind.Vars = record { same = λ t at. ▷-same _ _ _ _ (vars_matcher-bare.same t at) (λ m. refl) }
matcher_of-bare inner s kind.Not = record { same = λ t at. ▷-same _ _ _ _ ((not_matcher-bare inner s).same t at) (λ m. refl) }

known_matcher-bare : (inner : Reader (List MatcherSet)) → SeesNoIds inner → (name : List ℕ) (found : Option MatcherKind) → SeesNoIds (known_matcher inner name found)
known_matcher-bare inner s name None = record { same = λ t at. refl }
known_matcher-bare inner s name (Some which) = record { same = λ t at. (matcher_of-bare inner s which).same t at }

matcher-bare : (inner : Reader (List MatcherSet)) → SeesNoIds inner → (name : List ℕ) → SeesNoIds (matcher inner name)
unfolding matcher
matcher-bare inner s name = record { same = λ t at. (known_matcher-bare inner s name (kind_named name)).same t at }

-- ---- sets

matcher_set-bare : (inner : Reader (List MatcherSet)) → SeesNoIds inner → SeesNoIds (matcher_set inner)
unfolding matcher_set
matcher_set-bare inner s = record { same = λ t at. ▷-same _ _ _ _ ((object_of-bare (matcher inner) (matcher-bare inner s)).same t at) (λ matchers. refl) }

sets-bare : SeesNoIds sets
unfolding sets
sets-bare = recursive-bare sets_with sets-inward (λ inner s. list_of-bare (matcher_set inner) (matcher_set-bare inner s))

pub route_sets-bare : SeesNoIds route_sets
unfolding route_sets
route_sets-bare = record { same = λ t at. ▷-same _ _ _ _ (sets-bare.same t at) (λ sets. refl) }
