-- The set of the escaped bytes, and what it does to a text.
use Rattle.std.proofs.Common.{◌≡◌, ◌≢◌, ℕ, ◌<◌, ◌≤◌, List, [], ◌∷◌, ◌++◌, Bool, true, false, not, ◌==◌, ◌||◌, refl, sym, ap, ap₂, ◌∙◌, inl, inr, arith}
use Rattle.std.specs.Prelude.{if◌then◌else◌}
use Rattle.std.proofs.lemmas.Bool.{cases_eq, cases_lt, ne_eqb, eq-eqb, agree_below_at, lt-ltb, le-ltb}
use Rattle.std.proofs.lemmas.Bool.Decides.{nat_tests}
use Rattle.std.specs.Char.{is_ascii_alphanumeric}
use Rattle.percent_encoding.specs.declared.ascii_set.AsciiSet.{AsciiSet}
use Rattle.percent_encoding.specs.declared.ascii_set.TheConstants.{NON_ALPHANUMERIC}
use Rattle.percent_encoding.specs.AsciiSet.{contains, should_percent_encode}
use Rattle.percent_encoding.specs.Percent.{percent_encode, percent_encode_byte, encode_byte}
use Rattle.percent_encoding.proofs.StandardFacts.{non_alphanumeric}
use Rattle.cd_tags.specs.Encoding.{is_unreserved, encoded, encoded_byte}

-- a set without the byte x
pub without : (f g : ℕ → Bool) (x : ℕ) → g x ≡ false → ((b : ℕ) → b < 128 → b ≢ x → g b ≡ f b) → (b : ℕ) → b < 128 → g b ≡ (if b == x then false else f b)
without f g x removed others b h = elim (cases_eq b x) [
  | inl e ↦ ap g e ∙ removed ∙ sym (rw (eq-eqb b x e) refl)
  | inr ne ↦ others b h ne ∙ sym (rw (ne_eqb b x ne) refl)
]

pub combined : (s r q p a : Bool) → (if s then false else (if r then false else (if q then false else (if p then false else not a)))) ≡ not (s || (r || (q || (p || a))))
combined true r q p a = refl
combined false true q p a = refl
combined false false true p a = refl
combined false false false true a = refl
combined false false false false a = refl

pub alphanumeric : (b : ℕ) → b < 128 → contains NON_ALPHANUMERIC b ≡ not (is_ascii_alphanumeric b)
alphanumeric b h = agree_below_at (contains NON_ALPHANUMERIC) (λ n. not (is_ascii_alphanumeric n)) 128 b non_alphanumeric h

swapped : (u : Bool) (x y : List ℕ) → (if not u then x else y) ≡ (if u then y else x)
swapped true x y = refl
swapped false x y = refl

high : (b : ℕ) → 128 ≤ b → is_unreserved b ≡ false
high b h = grind (arith, nat_tests)

byte_is : (set : AsciiSet) → ((b : ℕ) → b < 128 → contains set b ≡ not (is_unreserved b)) → (b : ℕ) → encode_byte set b ≡ encoded_byte b
unfolding should_percent_encode
byte_is set is b = elim (cases_lt b 128) [
  | inl h ↦ rw (lt-ltb b 128 h, is b h) (swapped (is_unreserved b) (percent_encode_byte b) (b ∷ []))
  | inr h ↦ rw (le-ltb b 128 h, high b h) refl
]

pub encoded_is : (set : AsciiSet) → ((b : ℕ) → b < 128 → contains set b ≡ not (is_unreserved b)) → (s : List ℕ) → percent_encode set s ≡ encoded s
unfolding percent_encode encoded
encoded_is set is [] = refl
encoded_is set is (b ∷ s) = ap₂ (λ x y. x ++ y) (byte_is set is b) (encoded_is set is s)
