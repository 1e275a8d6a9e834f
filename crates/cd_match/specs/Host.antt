-- Part of the main theorem.
-- The matcher `host`: the host that is asked for (Caddy, JSON Config Structure, http.matchers.host).
use Rattle.std.specs.Prelude.{ℕ, ◌==◌, ◌||◌, Bool, List, codes, Ok}
use Rattle.std.specs.Cmp.Lexicographic.{pointwise}
use Rattle.std.specs.List.{slice_split, list_any}
use Rattle.std.specs.Str.{bytes_eq, str_eq_ignore_ascii_case}
use Rattle.cd_text.specs.Steps.{◌▷◌}
use Rattle.cd_fill.specs.declared.scene.Scene.{Scene}
use Rattle.cd_fill.specs.Values.{bare_host}
use Rattle.cd_module.specs.Settings.{Reader, text, list_of}
use Rattle.cd_match.specs.declared.host.HostMatcher.{HostMatcher}

-- the settings: a list of texts
unfoldable pub host_matcher : Reader HostMatcher
host_matcher t at = list_of text t at ▷ λ patterns. Ok (record { patterns = patterns })

-- `.`
abbrev pub is_dot : ℕ → Bool
is_dot byte = byte == 46

-- what stands between the dots
abbrev pub labels : List ℕ → List (List ℕ)
labels host = slice_split is_dot host

-- a label that is wanted stands for itself in any case, and `*` for each label
abbrev pub label_fits : List ℕ → List ℕ → Bool
label_fits wanted label = bytes_eq wanted (codes "*") || str_eq_ignore_ascii_case wanted label

-- the host has as many labels as the pattern, and each fits
unfoldable pub host_fits : List ℕ → List ℕ → Bool
host_fits pattern host = pointwise label_fits (labels pattern) (labels host)

-- the host without its port fits one of the patterns
abbrev pub host_holds : HostMatcher → Scene → Bool
host_holds matcher x = list_any (λ pattern. host_fits pattern (bare_host x.host)) matcher.patterns
