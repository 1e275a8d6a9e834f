-- The names of log writers (Caddy, JSON Config Structure, caddy.logging.writers).
use Rattle.std.specs.Prelude.{ℕ, Bool, true, false, ◌==◌, ◌&&◌, nat_lt, List, length, codes, Option, Some, None, if◌then◌else◌}
use Rattle.std.specs.List.{before_first, after_first, position_or_len}
use Rattle.std.specs.Str.{bytes_eq}
use Rattle.cd_outside.specs.declared.key.Key.{Key}
use Rattle.cd_outside.specs.declared.key.Key.TheVariants.{Listen, Writer}
use Rattle.cd_stdio.specs.declared.names.Stream.{Stream}
use Rattle.cd_stdio.specs.declared.names.Stream.TheVariants.{Output, Error, Nowhere}

-- the stream with this name, which needs no opening
abbrev pub stream_of : List ℕ → Option Stream
stream_of name =
    if bytes_eq name (codes "stdout") then Some Output
    else if bytes_eq name (codes "stderr") then Some Error
    else if bytes_eq name (codes "discard") then Some Nowhere
    else None

-- whether the name has a colon, and `file` before the first one
abbrev pub names_file : List ℕ → Bool
names_file name = nat_lt (position_or_len (λ b. b == 58) name) (length name) && bytes_eq (before_first (λ b. b == 58) name) (codes "file")

-- what follows `file:`
abbrev pub filename_of : List ℕ → Option (List ℕ)
filename_of name = if names_file name then Some (after_first (λ b. b == 58) name) else None

-- the stream that a key names
abbrev pub stream_at : Key → Option Stream
stream_at (Listen address) = None
stream_at (Writer name) = stream_of name

-- whether it is standard output or standard error
abbrev pub is_standard : Option Stream → Bool
is_standard (Some Output) = true
is_standard (Some Error) = true
is_standard (Some Nowhere) = false
is_standard None = false
