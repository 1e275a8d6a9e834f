-- A number read digit by digit, up to a bound.
use Rattle.std.proofs.Common.{◌≡◌, ℕ, ◌+◌, ◌*◌, ◌-◌, ◌<◌, List, length, get_or, take, true, arith}
use Rattle.std.specs.Prelude.{min}
use Rattle.cd_wire.specs.declared.limits.TheConstants.{MAX_BODY_BYTES}
use Rattle.std.specs.List.{list_all}
use Rattle.std.specs.Char.{is_ascii_digit, digit_value}
use Rattle.std.specs.Str.Parse.{digits_value}
use Rattle.std.proofs.lemmas.List.{take_more}
use Rattle.std.proofs.lemmas.List.Sums.{AllPass-from_list_all}
use Rattle.std.proofs.lemmas.Int.Digits.{digits_value_push}
use Rattle.std.proofs.lemmas.Bool.Decides.{nat_tests}

digit : (b : ℕ) → is_ascii_digit b ≡ true → digit_value b ≡ b - 48
digit b h = grind (arith, nat_tests)

capped : (v d cap : ℕ) → min (min v cap * 10 + d) cap ≡ min (v * 10 + d) cap
capped v d cap = omega arith

-- one more digit
pub number_push : (digits : List ℕ) (i n : ℕ) → i < length digits → list_all is_ascii_digit digits ≡ true
    → n ≡ min (digits_value 10 (take i digits)) (MAX_BODY_BYTES + 1)
    → min (n * 10 + (get_or digits i 0 - 48)) (MAX_BODY_BYTES + 1) ≡ min (digits_value 10 (take (i + 1) digits)) (MAX_BODY_BYTES + 1)
number_push digits i n within all is =
    let passes = AllPass-from_list_all is_ascii_digit digits all in
    let value : digit_value (get_or digits i 0) ≡ get_or digits i 0 - 48 = digit _ (passes i 0 within) in
    rw (is, take_more digits i 0 within, digits_value_push 10 (take i digits) (get_or digits i 0), value)
    (capped (digits_value 10 (take i digits)) (get_or digits i 0 - 48) (MAX_BODY_BYTES + 1))
