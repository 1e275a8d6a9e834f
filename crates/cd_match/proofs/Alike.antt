-- The sets of a `not` are read as those of a route are.
use Rattle.std.proofs.Common.{◌≡◌, ℕ, List, refl, arith, Option, Some, None}
use Rattle.cd_tree.specs.Tree.{depth}
use Rattle.cd_tree.specs.declared.path.Path.{Path}
use Rattle.cd_tree.specs.declared.tree.Tree.{Tree}
use Rattle.cd_module.specs.Settings.{Reader, list_of, object_of}
use Rattle.cd_module.proofs.Recursion.{Agree, Inward, unfolds, ▷-same, list_of-same, object_of-same}
use Rattle.cd_match.specs.Matchers.{matcher, matcher_of, known_matcher, matcher_set, sets_with, sets}
use Rattle.cd_match.specs.Names.{kind_named}
use Rattle.cd_match.specs.Not.{not_matcher}
use Rattle.cd_match.specs.declared.kind.MatcherKind.{MatcherKind}
use Rattle.cd_match.specs.declared.kind.MatcherKind.TheVariants as kind
use Rattle.cd_match.specs.declared.matcher.MatcherSet.{MatcherSet}

not-same : (f g : Reader (List MatcherSet)) (n : ℕ) → Agree n f g → Agree n (not_matcher f) (not_matcher g)
unfolding not_matcher
not-same f g n a = record { same = λ s p h. ▷-same (f s p) (g s p) _ _ (a.same s p h) (λ x. refl) }

kind-same : (f g : Reader (List MatcherSet)) (n : ℕ) → Agree n f g → (which : MatcherKind) → Agree n (matcher_of f which) (matcher_of g which)
unfolding matcher_of
kind-same f g n a kind.Host = record { same = λ s p h. refl }
kind-same f g n a kind.Path = record { same = λ s p h. refl }
kind-same f g n a kind.Method = record { same = λ s p h. refl }
kind-same f g n a kind.Header = record { same = λ s p h. refl }
kind-same f g n a kind.Query = record { same = λ s p h. refl }
kind-same f g n a kind.Vars = record { same = λ s p h. refl }
kind-same f g n a kind.Not = record { same = λ s p h. ▷-same (not_matcher f s p) (not_matcher g s p) _ _ ((not-same f g n a).same s p h) (λ m. refl) }

known-same : (f g : Reader (List MatcherSet)) (n : ℕ) → Agree n f g → (name : List ℕ) (found : Option MatcherKind) → Agree n (known_matcher f name found) (known_matcher g name found)
known-same f g n a name None = record { same = λ s p h. refl }
known-same f g n a name (Some which) = record { same = λ s p h. (kind-same f g n a which).same s p h }

matcher-same : (f g : Reader (List MatcherSet)) (n : ℕ) → Agree n f g → (name : List ℕ) → Agree n (matcher f name) (matcher g name)
unfolding matcher
matcher-same f g n a name = record { same = λ s p h. (known-same f g n a name (kind_named name)).same s p h }

pub sets-inward : Inward sets_with
unfolding matcher_set
sets-inward = record {
  same = λ f g t at a.
      list_of-same (matcher_set f) (matcher_set g) (depth t)
      (record { same = λ s p h. ▷-same (object_of (matcher f) s p) (object_of (matcher g) s p) _ _ (object_of-same (matcher f) (matcher g) (depth t) (matcher-same f g (depth t) a) s p (omega arith)) (λ ms. refl) })
      t at (omega arith);
}

pub sets_are : (t : Tree) (at : Path) → sets t at ≡ list_of (matcher_set sets) t at
unfolding sets
sets_are = unfolds sets_with sets-inward
