-- Which texts are the decimal of a number, and so name a storm.
use Rattle.std.proofs.Common.{◌≡◌, ◌≢◌, ◌∙◌, ℕ, ◌<◌, ◌^◌, List, Bool, true, false, sym, ap, refl, arith, decimal}
use Rattle.std.specs.Prelude.{◌&&◌, nat_lt}
use Rattle.std.specs.Str.{bytes_eq}
use Rattle.std.specs.Str.Parse.{AllDigits, digits_value}
use Rattle.std.proofs.lemmas.Bool.Decides.{nat_tests}
use Rattle.std.proofs.lemmas.Fmt.{digits_value-decimal}
use Rattle.std.proofs.lemmas.Slice.Eq.{bytes_eq-Decides}
use Rattle.std.proofs.lemmas.Str.Parse.{IsNumeralModel, numerals_by_value, tells_digits}
use Rattle.cd_program.specs.declared.command.Command.TheVariants.{Storm, Unknown}
use Rattle.cd_program.specs.Words.{is_number, storm_of}

own : IsNumeralModel (AllDigits 10) (digits_value 10)
own = numerals_by_value (AllDigits 10) tells_digits

is_lt : (a b : ℕ) → a < b → nat_lt a b ≡ true
is_lt a b h = grind (arith, nat_tests)

lt_is : (a b : ℕ) → nat_lt a b ≡ true → a < b
lt_is a b h = grind (arith, nat_tests)

bytes_eq-same : (xs : List ℕ) → bytes_eq xs xs ≡ true
bytes_eq-same xs = (bytes_eq-Decides xs xs).1 refl

-- the decimal of a number
is_decimal : (n : ℕ) → n < 2 ^ 64 → is_number (decimal n) ≡ true
is_decimal n small = rw (digits_value-decimal own n small, is_lt n (2 ^ 64) small, bytes_eq-same (decimal n)) refl

pub storm : (text : List ℕ) (n : ℕ) → n < 2 ^ 64 → text ≡ decimal n → Storm n ≡ storm_of text
storm text n small is = sym (ap storm_of is ∙ rw (is_decimal n small, digits_value-decimal own n small) refl)

second : (text : List ℕ) (v : ℕ) (b : Bool) → nat_lt v (2 ^ 64) ≡ b → text ≡ decimal v → ((n : ℕ) → n < 2 ^ 64 → text ≢ decimal n) → false ≡ b
second text v true e is other = absurd (other v (lt_is v (2 ^ 64) e) is)
second text v false e is other = refl

first : (text : List ℕ) (v : ℕ) (b : Bool) → bytes_eq text (decimal v) ≡ b → ((n : ℕ) → n < 2 ^ 64 → text ≢ decimal n) → false ≡ (b && nat_lt v (2 ^ 64))
first text v true e other = second text v (nat_lt v (2 ^ 64)) refl ((bytes_eq-Decides text (decimal v)).0 e) other
first text v false e other = refl

-- any other text
no_number : (text : List ℕ) → ((n : ℕ) → n < 2 ^ 64 → text ≢ decimal n) → false ≡ is_number text
no_number text other = first text (digits_value 10 text) (bytes_eq text (decimal (digits_value 10 text))) refl other

pub no_storm : (text : List ℕ) → ((n : ℕ) → n < 2 ^ 64 → text ≢ decimal n) → Unknown ≡ storm_of text
no_storm text other = rw (sym (no_number text other)) refl
