-- The set of the escaped bytes, and what it does to a path.
use Rattle.std.proofs.Common.{◌≡◌, ℕ, ◌≤◌, List, [], ◌∷◌, ◌++◌, Bool, true, false, not, refl, ap₂, inl, inr, arith}
use Rattle.std.specs.Prelude.{if◌then◌else◌}
use Rattle.std.proofs.lemmas.Bool.{cases_lt, agree_below, agree_below_at, lt-ltb, le-ltb}
use Rattle.std.proofs.lemmas.Bool.Decides.{nat_tests}
use Rattle.percent_encoding.specs.AsciiSet.{contains, should_percent_encode}
use Rattle.percent_encoding.specs.Percent.{percent_encode, percent_encode_byte, encode_byte}
use Rattle.cd_rewrite.specs.declared.uri_text.TheConstants.{ESCAPED}
use Rattle.cd_rewrite.specs.UriText.{is_path_byte, escaped_byte, path_text}

low_bytes : agree_below (contains ESCAPED) (λ b. not (is_path_byte b)) 128 ≡ true
low_bytes = refl

high_byte : (b : ℕ) → 128 ≤ b → is_path_byte b ≡ false
high_byte b h = grind (arith, nat_tests)

swapped : (u : Bool) (x y : List ℕ) → (if not u then x else y) ≡ (if u then y else x)
swapped true x y = refl
swapped false x y = refl

byte_is : (b : ℕ) → encode_byte ESCAPED b ≡ escaped_byte b
unfolding should_percent_encode
byte_is b = elim (cases_lt b 128) [
  | inl h ↦ rw (lt-ltb b 128 h, agree_below_at (contains ESCAPED) (λ n. not (is_path_byte n)) 128 b low_bytes h) (swapped (is_path_byte b) (percent_encode_byte b) (b ∷ []))
  | inr h ↦ rw (le-ltb b 128 h, high_byte b h) refl
]

-- each byte that a path does not keep is escaped, and no other
pub path_text_is : (path : List ℕ) → percent_encode ESCAPED path ≡ path_text path
unfolding percent_encode path_text
path_text_is [] = refl
path_text_is (b ∷ path) = ap₂ (λ x y. x ++ y) (byte_is b) (path_text_is path)
