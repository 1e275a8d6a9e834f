-- No matcher's settings lack memory to be read.
use Rattle.std.proofs.Common.{◌≡◌, true, ℕ, List, refl, Option, Some, None}
use Rattle.std.specs.List.{list_any}
use Rattle.cd_tree.specs.Fields.{is_null}
use Rattle.cd_module.specs.Patterns.{pattern, literal}
use Rattle.cd_module.specs.Settings.{Reader, text, list_of, object_of, object_with_nulls}
use Rattle.cd_module.proofs.Sure.{IsSure, then-sure, if-sure, text-sure, pattern-sure, list_of-sure, object_of-sure, object_with_nulls-sure, recursive-sure}
use Rattle.cd_match.specs.Host.{host_matcher}
use Rattle.cd_match.specs.Path.{is_star, path_pattern, path_matcher}
use Rattle.cd_match.specs.Method.{method_matcher}
use Rattle.cd_match.specs.Header.{field_test, header_matcher}
use Rattle.cd_match.specs.Query.{key_test, query_matcher}
use Rattle.cd_match.specs.Vars.{variable_test, vars_matcher}
use Rattle.cd_match.specs.Not.{not_matcher}
use Rattle.cd_match.specs.Names.{kind_named}
use Rattle.cd_match.specs.Matchers.{matcher_of, known_matcher, matcher, matcher_set, sets_with, sets, route_sets}
use Rattle.cd_match.specs.declared.kind.MatcherKind.{MatcherKind}
use Rattle.cd_match.specs.declared.kind.MatcherKind.TheVariants as kind
use Rattle.cd_match.specs.declared.matcher.MatcherSet.{MatcherSet}
use Rattle.cd_match.proofs.Alike.{sets-inward}

-- ---- matchers

host_matcher-sure : IsSure host_matcher
unfolding host_matcher
host_matcher-sure = record { sure = λ t at. then-sure (list_of text t at) _ ((list_of-sure text text-sure).sure t at) (λ patterns. refl) }

path_pattern-sure : IsSure path_pattern
unfolding path_pattern
path_pattern-sure = record { sure = λ t at. then-sure (pattern t at) _ (pattern-sure.sure t at) (λ written. if-sure (list_any is_star (literal written)) _ _ refl refl) }

path_matcher-sure : IsSure path_matcher
unfolding path_matcher
path_matcher-sure = record { sure = λ t at. then-sure (list_of path_pattern t at) _ ((list_of-sure path_pattern path_pattern-sure).sure t at) (λ patterns. refl) }

method_matcher-sure : IsSure method_matcher
unfolding method_matcher
method_matcher-sure = record { sure = λ t at. then-sure (list_of text t at) _ ((list_of-sure text text-sure).sure t at) (λ methods. refl) }

field_test-sure : (name : List ℕ) → IsSure (field_test name)
unfolding field_test
field_test-sure name = record { sure = λ t at. if-sure (is_null t) _ _ refl (then-sure (list_of pattern t at) _ ((list_of-sure pattern pattern-sure).sure t at) (λ patterns. refl)) }

header_matcher-sure : IsSure header_matcher
unfolding header_matcher
header_matcher-sure = record { sure = λ t at. then-sure (object_with_nulls field_test t at) _ ((object_with_nulls-sure field_test field_test-sure).sure t at) (λ tests. refl) }

key_test-sure : (key : List ℕ) → IsSure (key_test key)
unfolding key_test
key_test-sure key = record { sure = λ t at. then-sure (list_of text t at) _ ((list_of-sure text text-sure).sure t at) (λ values. refl) }

query_matcher-sure : IsSure query_matcher
unfolding query_matcher
query_matcher-sure = record { sure = λ t at. then-sure (object_of key_test t at) _ ((object_of-sure key_test key_test-sure).sure t at) (λ tests. refl) }

variable_test-sure : (key : List ℕ) → IsSure (variable_test key)
unfolding variable_test
variable_test-sure key = record { sure = λ t at. then-sure (list_of text t at) _ ((list_of-sure text text-sure).sure t at) (λ values. refl) }

vars_matcher-sure : IsSure vars_matcher
unfolding vars_matcher
vars_matcher-sure = record { sure = λ t at. then-sure (object_of variable_test t at) _ ((object_of-sure variable_test variable_test-sure).sure t at) (λ tests. refl) }

not_matcher-sure : (inner : Reader (List MatcherSet)) → IsSure inner → IsSure (not_matcher inner)
unfolding not_matcher
not_matcher-sure inner s = record { sure = λ t at. then-sure (inner t at) _ (s.sure t at) (λ sets. refl) }

matcher_of-sure : (inner : Reader (List MatcherSet)) → IsSure inner → (which : MatcherKind) → IsSure (matcher_of inner which)
unfolding matcher_of
matcher_of-sure inner s kind.Host = record { sure = λ t at. then-sure (host_matcher t at) _ (host_matcher-sure.sure t at) (λ m. refl) }
matcher_of-sure inner s kind.Path = record { sure = λ t at. then-sure (path_matcher t at) _ (path_matcher-sure.sure t at) (λ m. refl) }
matcher_of-sure inner s kind.Method = record { sure = λ t at. then-sure (method_matcher t at) _ (method_matcher-sure.sure t at) (λ m. refl) }
matcher_of-sure inner s kind.Header = record { sure = λ t at. then-sure (header_matcher t at) _ (header_matcher-sure.sure t at) (λ m. refl) }
matcher_of-sure inner s kind.Query = record { sure = λ t at. then-sure (query_matcher t at) _ (query_matcher-sure.sure t at) (λ m. refl) }
matcher_of-sure inner s kind.Vars = record { sure = λ t at. then-sure (vars_matcher t at) _ (vars_matcher-sure.sure t at) (λ m. refl) }
matcher_of-sure inner s kind.Not = record { sure = λ t at. then-sure (not_matcher inner t at) _ ((not_matcher-sure inner s).sure t at) (λ m. refl) }

known_matcher-sure : (inner : Reader (List MatcherSet)) → IsSure inner → (name : List ℕ) (found : Option MatcherKind) → IsSure (known_matcher inner name found)
known_matcher-sure inner s name None = record { sure = λ t at. refl }
known_matcher-sure inner s name (Some which) = record { sure = λ t at. (matcher_of-sure inner s which).sure t at }

matcher-sure : (inner : Reader (List MatcherSet)) → IsSure inner → (name : List ℕ) → IsSure (matcher inner name)
unfolding matcher
matcher-sure inner s name = record { sure = λ t at. (known_matcher-sure inner s name (kind_named name)).sure t at }

-- ---- sets

matcher_set-sure : (inner : Reader (List MatcherSet)) → IsSure inner → IsSure (matcher_set inner)
unfolding matcher_set
matcher_set-sure inner s = record { sure = λ t at. then-sure (object_of (matcher inner) t at) _ ((object_of-sure (matcher inner) (matcher-sure inner s)).sure t at) (λ matchers. refl) }

sets-sure : IsSure sets
unfolding sets
sets-sure = recursive-sure sets_with sets-inward (λ inner s. list_of-sure (matcher_set inner) (matcher_set-sure inner s))

pub route_sets-sure : IsSure route_sets
unfolding route_sets
route_sets-sure = record { sure = λ t at. then-sure (sets t at) _ (sets-sure.sure t at) (λ sets. refl) }
