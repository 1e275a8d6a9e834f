-- A matcher that was read under a name has that name.
use Rattle.std.proofs.Common.{◌≡◌, ℕ, List, refl, Option, Some, Ok, rules}
use Rattle.std.specs.Str.{bytes_eq}
use Rattle.std.proofs.lemmas.Slice.Eq.{bytes_eq-Decides}
use Rattle.cd_tree.specs.declared.path.Path.{Path}
use Rattle.cd_tree.specs.declared.tree.Tree.{Tree}
use Rattle.cd_module.specs.Settings.{Reader}
use Rattle.cd_module.proofs.Naming.{found-passes, made-so}
use Rattle.cd_match.specs.Matchers.{matcher, matcher_of, known_matcher}
use Rattle.cd_match.specs.Names.{kind_name, kind_named, kind_of, kinds, matcher_name}
use Rattle.cd_match.specs.declared.kind.MatcherKind.{MatcherKind}
use Rattle.cd_match.specs.declared.matcher.Matcher.{Matcher, the_lemmas}
use Rattle.cd_match.specs.declared.matcher.MatcherSet.{MatcherSet}

-- ---- the table

-- the one with a name has that name
named-so : (name : List ℕ) (which : MatcherKind) → kind_named name ≡ Some which → kind_name which ≡ name
unfolding kind_named
named-so name which e = (bytes_eq-Decides (kind_name which) name).0 (found-passes (λ one. bytes_eq (kind_name one) name) kinds which e)

-- ---- what was read

read-so : (inner : Reader (List MatcherSet)) (which : MatcherKind) (t : Tree) (at : Path) (m : Matcher) → matcher_of inner which t at ≡ Ok m → kind_of m ≡ which
unfolding matcher_of
read-so inner which t at m e = search (rules, made-so, the_lemmas)

known-so : (inner : Reader (List MatcherSet)) (name : List ℕ) (found : Option MatcherKind) (t : Tree) (at : Path) (m : Matcher) → kind_named name ≡ found → known_matcher inner name found t at ≡ Ok m → matcher_name m ≡ name
known-so inner name found t at m is e = search (rules, read-so, named-so)

pub name_kept : (inner : Reader (List MatcherSet)) (name : List ℕ) (t : Tree) (at : Path) (m : Matcher) → matcher inner name t at ≡ Ok m → matcher_name m ≡ name
unfolding matcher
name_kept inner name t at m e = known-so inner name (kind_named name) t at m refl e
