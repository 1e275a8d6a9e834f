use Rattle.std.proofs.Common.{◌≡◌, ◌++◌, drop}
use Rattle.cd_caddyfile.specs.Shorthands.{spelled}
use Rattle.cd_caddyfile.specs.Spelling.{to_spell}
use Rattle.cd_caddyfile.proofs.shorthands.spelled.Given as goal

abbrev pub invariant-loop-byte : goal.invariant-loop-byte
invariant-loop-byte l = spelled l.text ≡ l.speller.made ++ to_spell l.speller.is_in_brace l.speller.name (drop l.byte-index l.text)
