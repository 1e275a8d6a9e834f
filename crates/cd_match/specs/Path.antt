-- Part of the main theorem.
-- The matcher `path`: the path that is asked for, as handlers have left it (Caddy, JSON Config Structure, http.matchers.path).
use Rattle.std.specs.Prelude.{ℕ, ◌==◌, Bool, if◌then◌else◌, Ok, Err}
use Rattle.std.specs.List.{list_any}
use Rattle.cd_text.specs.Steps.{◌▷◌}
use Rattle.cd_fill.specs.declared.scene.Scene.{Scene}
use Rattle.cd_module.specs.Faults.{refused}
use Rattle.cd_module.specs.Patterns.{pattern, literal, fits_in_any_case}
use Rattle.cd_module.specs.Settings.{Reader, list_of}
use Rattle.cd_module.specs.declared.fault.LoadKind.TheVariants.{BadValue}
use Rattle.cd_match.specs.declared.path.PathPattern.{PathPattern}
use Rattle.cd_match.specs.declared.path.PathMatcher.{PathMatcher}

-- a `*`
abbrev pub is_star : ℕ → Bool
is_star byte = byte == 42

-- a pattern, in which a `*` stands at its ends alone
unfoldable pub path_pattern : Reader PathPattern
path_pattern t at =
    pattern t at ▷ λ written.
    if list_any is_star (literal written) then Err (refused BadValue at) else Ok (record { pattern = written })

-- the settings: a list of patterns
unfoldable pub path_matcher : Reader PathMatcher
path_matcher t at = list_of path_pattern t at ▷ λ patterns. Ok (record { patterns = patterns })

-- the path fits one of the patterns, in any case
abbrev pub path_holds : PathMatcher → Scene → Bool
path_holds matcher x = list_any (λ wanted. fits_in_any_case wanted.pattern x.current.path) matcher.patterns
