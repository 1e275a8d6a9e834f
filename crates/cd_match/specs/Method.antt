-- Part of the main theorem.
-- The matcher `method`: the method of the request (Caddy, JSON Config Structure, http.matchers.method).
use Rattle.std.specs.Prelude.{Bool, Ok}
use Rattle.std.specs.List.{list_any}
use Rattle.std.specs.Str.{bytes_eq}
use Rattle.cd_text.specs.Steps.{◌▷◌}
use Rattle.cd_fill.specs.declared.scene.Scene.{Scene}
use Rattle.cd_module.specs.Settings.{Reader, text, list_of}
use Rattle.cd_match.specs.declared.method.MethodMatcher.{MethodMatcher}

-- the settings: a list of texts
unfoldable pub method_matcher : Reader MethodMatcher
method_matcher t at = list_of text t at ▷ λ methods. Ok (record { methods = methods })

-- the method is listed; case counts
abbrev pub method_holds : MethodMatcher → Scene → Bool
method_holds matcher x = list_any (bytes_eq x.current.method) matcher.methods
