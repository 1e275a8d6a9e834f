-- The equation of what a `not` holds for.
use Rattle.std.proofs.Common.{◌≡◌, Bool, not, List, [], ◌∷◌, map, ap, ◌∙◌, refl, rules}
use Rattle.std.specs.List.{list_any, list_all}
use Rattle.std.proofs.lemmas.List.Folds.{list_all-map}
use Rattle.cd_fill.specs.declared.scene.Scene.{Scene}
use Rattle.cd_match.specs.declared.matcher.Matcher.{Not, the_lemmas}
use Rattle.cd_match.specs.declared.matcher.MatcherSet.{MatcherSet, out-MatcherSet, fold-MatcherSet}
use Rattle.cd_match.specs.declared.not.NotMatcher.{NotMatcher, out-NotMatcher}
use Rattle.cd_match.specs.Holds.{matches, matcher_holds, set_holds}
use Rattle.cd_match.specs.Not.{none_holds}

-- a set by the fold itself
abbrev pub set_folded : Scene → MatcherSet → Bool
set_folded x = fold-MatcherSet Bool Bool Bool (matches x) (λ set. list_all (λ holds. holds) set.matchers) (λ none. none_holds none.sets)

set_folded-out : (x : Scene) (set : MatcherSet) → set_folded x set ≡ list_all (λ holds. holds) (map (matcher_holds x) (out-MatcherSet set).matchers)
unfolding matcher_holds
set_folded-out x set = search (rules, the_lemmas)

folded-holds : (x : Scene) (set : MatcherSet) → set_folded x set ≡ set_holds x set
folded-holds x set = set_folded-out x set ∙ list_all-map (λ holds. holds) (matcher_holds x) (out-MatcherSet set).matchers

any_folded : (x : Scene) (sets : List MatcherSet) → list_any (λ holds. holds) (map (set_folded x) sets) ≡ list_any (set_holds x) sets
any_folded x [] = refl
any_folded x (set ∷ sets) = rw (folded-holds x set, any_folded x sets)

holds-Not-folded : (x : Scene) (none : NotMatcher) → matcher_holds x (Not none) ≡ none_holds (map (set_folded x) (out-NotMatcher none).sets)
unfolding matcher_holds
holds-Not-folded x none = search (rules, the_lemmas)

pub holds-Not : (x : Scene) (none : NotMatcher) → matcher_holds x (Not none) ≡ not (list_any (set_holds x) (out-NotMatcher none).sets)
holds-Not x none = holds-Not-folded x none ∙ ap not (any_folded x (out-NotMatcher none).sets)
