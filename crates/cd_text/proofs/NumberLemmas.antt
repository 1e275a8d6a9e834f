-- Decimal texts, and what `parse` makes of them.
use Rattle.std.proofs.Common.{◌≡◌, ◌≢◌, ◌∙◌, ℕ, zero, suc, ◌<◌, ◌^◌, List, length, get_or, Result, Ok, Err, sym, ap, subst, arith, decimal}
use Rattle.std.specs.Str.Parse.{AllDigits, ParsesUnsigned, digits_value}
use Rattle.std.proofs.lemmas.Str.Parse.{IsNumeralModel, numerals_by_value, tells_digits, parse_plain, not_in_digits}
use Rattle.std.proofs.lemmas.Fmt.{decimal_digit, decimal_nonempty, first_decimal, digits_decimal, decimal-digits_value, parse-decimal}
use Rattle.cd_text.specs.Numbers.{IsPlain}

own : IsNumeralModel (AllDigits 10) (digits_value 10)
own = numerals_by_value (AllDigits 10) tells_digits

-- a decimal begins as one may
short : (number : ℕ) → number < 2 ^ 64 → get_or (decimal number) 0 0 ≡ 48 → length (decimal number) ≡ 1
short zero small first = ap length (decimal_digit 0 (omega arith))
short (suc n) small first = absurd (omega (arith, first_decimal (suc n) (omega arith) small))

plain_decimal : (number : ℕ) → number < 2 ^ 64 → IsPlain (decimal number)
plain_decimal number small = record {
  some = decimal_nonempty number small;
  unsigned = not_in_digits own (decimal number) 43 (digits_decimal own number small) (λ within. omega (arith, within)) 0 (decimal_nonempty number small);
  short = short number small;
}

-- what is parsed, and begins as a decimal may, is a decimal
pub parsed_is_decimal : (bytes : List ℕ) (number : ℕ) → IsPlain bytes → ParsesUnsigned {E = ℕ} 64 10 bytes (Ok number) → bytes ≡ decimal number
parsed_is_decimal bytes number plain parsed =
    let digits = parse_plain own {E = ℕ} 64 bytes (Ok number) parsed plain.unsigned in
    sym (ap decimal digits.1 ∙ decimal-digits_value own bytes digits.0.0 digits.0.1 plain.short digits.0.2)

-- what is not parsed is none
pub refused_is_none : {E : Type 0} (bytes : List ℕ) (error : E) → ParsesUnsigned {E = E} 64 10 bytes (Err error) → (number : ℕ) → number < 2 ^ 64 → bytes ≢ decimal number
refused_is_none {E = E} bytes error refused number small is =
    let same : ◌≡◌ {A = Result ℕ E} (Err error) (Ok number) = parse-decimal 64 number bytes (Err error) small small is refused in cc

-- nor is what begins otherwise
pub other_is_none : (bytes : List ℕ) → (IsPlain bytes → ⊥) → (number : ℕ) → number < 2 ^ 64 → bytes ≢ decimal number
other_is_none bytes other number small is = other (subst IsPlain (sym is) (plain_decimal number small))
