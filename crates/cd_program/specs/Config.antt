-- Part of the main theorem.
-- The bytes of the configuration.
use Rattle.std.specs.Prelude.{◌≡◌, ◌<◌, ◌≤◌, ◌+◌, ◌++◌, ◌⊎◌, ℕ, List, [], length, Option, Some, None, option_map}
use Rattle.cd_tree.specs.declared.limits.TheConstants.{MAX_TEXT_BYTES}
use Rattle.cd_program.specs.declared.config.TheConstants.{CONFIG_READ_BYTES}

-- the bytes are more than a configuration may have, or nothing is left after them
abbrev pub IsAllOrTooLong : List ℕ → Option (List ℕ) → Type 0
IsAllOrTooLong bytes None = Unit {0}
IsAllOrTooLong bytes (Some left) = (MAX_TEXT_BYTES < length bytes) ⊎ (left ≡ [])

-- A source gave these bytes up, to its end or beyond the limit. Beyond the limit it was asked no more: they are at most so many as
-- the limit and one reading come to.
pub record Gave (bytes : List ℕ) (old new : Option (List ℕ)) : Type 0 where
  pub given : old ≡ option_map (λ rest. bytes ++ rest) new
  pub all : IsAllOrTooLong bytes new
  pub few : length bytes ≤ MAX_TEXT_BYTES + CONFIG_READ_BYTES
