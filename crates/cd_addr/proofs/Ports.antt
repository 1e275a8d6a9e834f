-- Which texts are the decimal text of a port.
use Rattle.std.proofs.Common.{◌≡◌, ◌≢◌, ◌∙◌, ℕ, ◌<◌, ◌≤◌, ◌^◌, List, Bool, true, false, Some, None, sym, ap, refl, arith, decimal}
use Rattle.std.specs.Prelude.{◌&&◌, nat_lt, nat_le, if◌then◌else◌}
use Rattle.std.specs.Str.{bytes_eq}
use Rattle.std.specs.Str.Parse.{AllDigits, digits_value}
use Rattle.std.proofs.lemmas.Bool.Decides.{nat_tests}
use Rattle.std.proofs.lemmas.Fmt.{digits_value-decimal}
use Rattle.std.proofs.lemmas.Slice.Eq.{bytes_eq-Decides}
use Rattle.std.proofs.lemmas.Str.Parse.{IsNumeralModel, numerals_by_value, tells_digits}
use Rattle.cd_addr.specs.declared.limits.TheConstants.{MAX_PORT}
use Rattle.cd_addr.specs.Addresses.{if_port, port}

pub own : IsNumeralModel (AllDigits 10) (digits_value 10)
own = numerals_by_value (AllDigits 10) tells_digits

-- the tests of numbers, as facts
pub is_lt : (a b : ℕ) → a < b → nat_lt a b ≡ true
is_lt a b h = grind (arith, nat_tests)

pub is_le : (a b : ℕ) → a ≤ b → nat_le a b ≡ true
is_le a b h = grind (arith, nat_tests)

pub le_is : (a b : ℕ) → nat_le a b ≡ true → a ≤ b
le_is a b h = grind (arith, nat_tests)

pub lt_is : (a b : ℕ) → nat_lt a b ≡ true → a < b
lt_is a b h = grind (arith, nat_tests)

pub no_lt : (a b : ℕ) → b ≤ a → nat_lt a b ≡ false
no_lt a b h = grind (arith, nat_tests)

no_le : (a b : ℕ) → b < a → nat_le a b ≡ false
no_le a b h = grind (arith, nat_tests)

bytes_eq-same : (xs : List ℕ) → bytes_eq xs xs ≡ true
bytes_eq-same xs = (bytes_eq-Decides xs xs).1 refl

-- what the text of a number gives
of_decimal : (n : ℕ) → n < 2 ^ 64 → port (decimal n) ≡ if_port n (decimal n)
unfolding port
of_decimal n small = ap (λ v. if_port v (decimal n)) (digits_value-decimal own n small)

-- the text of a port
pub port_decimal : (n : ℕ) → 0 < n → n ≤ MAX_PORT → port (decimal n) ≡ Some n
port_decimal n some most =
    of_decimal n (omega arith) ∙ rw (is_lt 0 n some, is_le n MAX_PORT most, bytes_eq-same (decimal n)) refl

-- a text that is the one of a port
pub taken : (s : List ℕ) (n : ℕ) → s ≡ decimal n → 0 < n → n ≤ MAX_PORT → Some n ≡ port s
taken s n is some most = sym (ap port is ∙ port_decimal n some most)

-- the text of a number that is too large
pub too_large : (s : List ℕ) (n : ℕ) → n < 2 ^ 64 → s ≡ decimal n → MAX_PORT < n → None ≡ port s
too_large s n small is large = sym (ap port is ∙ (of_decimal n small ∙ rw (is_lt 0 n (omega arith), no_le n MAX_PORT large) refl))

-- the text of 0
pub zero_port : (s : List ℕ) (n : ℕ) → s ≡ decimal n → n ≤ 0 → None ≡ port s
zero_port s n is none = sym (ap port is ∙ (of_decimal n (omega arith) ∙ rw (no_lt 0 n none) refl))

-- the third test
last_test : (s : List ℕ) (v : ℕ) (b : Bool) → v ≤ MAX_PORT → bytes_eq (decimal v) s ≡ b → ((n : ℕ) → n < 2 ^ 64 → s ≢ decimal n) → None ≡ (if b then Some v else None)
last_test s v true most e other = absurd (other v (omega arith) (sym ((bytes_eq-Decides (decimal v) s).0 e)))
last_test s v false most e other = refl

-- the second test
next_test : (s : List ℕ) (v : ℕ) (b : Bool) → nat_le v MAX_PORT ≡ b → ((n : ℕ) → n < 2 ^ 64 → s ≢ decimal n) → None ≡ (if b && bytes_eq (decimal v) s then Some v else None)
next_test s v true e other = last_test s v (bytes_eq (decimal v) s) (le_is v MAX_PORT e) refl other
next_test s v false e other = refl

-- the first test
first_test : (s : List ℕ) (v : ℕ) (b : Bool) → ((n : ℕ) → n < 2 ^ 64 → s ≢ decimal n) → None ≡ (if b && nat_le v MAX_PORT && bytes_eq (decimal v) s then Some v else None)
first_test s v true other = next_test s v (nat_le v MAX_PORT) refl other
first_test s v false other = refl

-- a text that is the one of no number
pub no_number : (s : List ℕ) → ((n : ℕ) → n < 2 ^ 64 → s ≢ decimal n) → None ≡ port s
unfolding port
no_number s other = first_test s (digits_value 10 s) (nat_lt 0 (digits_value 10 s)) other
