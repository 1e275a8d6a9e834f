-- The lines that go to standard error, beside those of a run.
use Rattle.std.specs.Prelude.{◌==◌, ◌++◌, ℕ, List, codes, if◌then◌else◌}
use Rattle.cd_outside.specs.declared.key.Key.{Key}
use Rattle.cd_outside.specs.declared.key.Key.TheVariants.{Listen, Writer}
use Rattle.cd_addr.specs.Addresses.{written}
use Rattle.cd_stdio.specs.declared.lines.TheConstants.{HTTPS_PORT}
use Rattle.cd_stdio.specs.Escaping.{escaped}

-- what is said of a port: clients expect HTTPS at one, and it is served at none
abbrev pub served_at : ℕ → List ℕ
served_at port = if port == HTTPS_PORT then codes " (plain HTTP; HTTPS is not served)" else codes " (plain HTTP)"

-- why something has failed: the name and the words may be of others, so their control characters are escaped
abbrev pub caused : List ℕ → List ℕ → List ℕ
caused what words = codes "caddy_run: " ++ (escaped what ++ (codes ": " ++ (escaped words ++ codes "\n")))

-- what a key names
abbrev pub thing_of : Key → List ℕ
thing_of (Listen address) = codes "listen " ++ written address
thing_of (Writer name) = codes "log writer " ++ name
