-- Part of the main theorem.
-- The matcher `not`: none of its sets holds (Caddy, JSON Config Structure, http.matchers.not).
use Rattle.std.specs.Prelude.{Bool, not, List, Ok}
use Rattle.std.specs.List.{list_any}
use Rattle.cd_text.specs.Steps.{◌▷◌}
use Rattle.cd_module.specs.Settings.{Reader}
use Rattle.cd_match.specs.declared.matcher.MatcherSet.{MatcherSet}
use Rattle.cd_match.specs.declared.not.NotMatcher.{NotMatcher, roll-NotMatcher}

-- the settings: a list of sets, which `inner` reads
unfoldable pub not_matcher : Reader (List MatcherSet) → Reader NotMatcher
not_matcher inner t at = inner t at ▷ λ sets. Ok (roll-NotMatcher (record { sets = sets }))

-- none of these holds
abbrev pub none_holds : List Bool → Bool
none_holds sets = not (list_any (λ holds. holds) sets)
