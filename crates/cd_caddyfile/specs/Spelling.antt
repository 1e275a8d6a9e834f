-- What is still to be spelled of a word, by where its reader is.
use Rattle.std.specs.Prelude.{ℕ, Bool, true, false, List}
use Rattle.cd_caddyfile.specs.Shorthands.{spelled, after_brace}

-- `name` is what follows the last `{`, where the reader is after one
abbrev pub to_spell : Bool → List ℕ → List ℕ → List ℕ
to_spell true name rest = after_brace name rest
to_spell false name rest = spelled rest
