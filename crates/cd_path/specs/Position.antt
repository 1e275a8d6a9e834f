-- Part of the main theorem.
-- Positions: decimals that name the elements of a list.
use Rattle.std.specs.Prelude.{ℕ, ◌+◌, ◌-◌, ◌*◌, ◌&&◌, ◌||◌, ◌==◌, not, nat_lt, Bool, false, if◌then◌else◌, List, [], ◌∷◌, length, Option, Some, None, Result, Ok, Err, fold}
use Rattle.std.specs.Char.{is_ascii_digit}
use Rattle.std.specs.List.{list_all}
use Rattle.cd_text.specs.Steps.{◌▷◌, some_or}
use Rattle.cd_path.specs.declared.fault.EditFault.{EditFault}
use Rattle.cd_path.specs.declared.fault.EditFault.TheVariants.{BadIndex, OutOfBounds}

-- a number with one more digit behind it
abbrev pub add_digit : ℕ → ℕ → ℕ
add_digit number digit = number * 10 + (digit - 48)

-- the number that digits stand for
abbrev pub digits_value : List ℕ → ℕ
digits_value = fold add_digit 0

-- something, whose first byte is `0` only where it is all
abbrev pub begins_well : List ℕ → Bool
begins_well [] = false
begins_well (first ∷ rest) = not (first == 48) || (length rest == 0)

-- a decimal without a sign and without a leading zero
abbrev pub position : List ℕ → Option ℕ
position part = if begins_well part && list_all is_ascii_digit part then Some (digits_value part) else None

-- the position below a bound that a part names
abbrev pub place : ℕ → List ℕ → Result ℕ EditFault
place bound part = some_or BadIndex (position part) ▷ λ n. if nat_lt n bound then Ok n else Err OutOfBounds
