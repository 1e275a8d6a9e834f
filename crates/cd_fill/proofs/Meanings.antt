-- What bytes of a query stand for, byte by byte, and whether that is a text.
use Rattle.std.proofs.Common.{◌≡◌, ℕ, ◌<◌, ◌+◌, ◌*◌, ◌==◌, ◌&&◌, Bool, true, false, List, [], ◌∷◌, ◌++◌, length, drop, refl, ap, sym, ◌∙◌, arith, encode_utf8, rules}
use Rattle.std.specs.Prelude.{if◌then◌else◌, nat_eq, nat_le, suc, slice_index}
use Rattle.std.specs.Char.{digit_value, is_digit}
use Rattle.std.specs.Str.{bytes_eq}
use Rattle.std.proofs.lemmas.Bool.{and_parts, eqb-true}
use Rattle.std.proofs.lemmas.Bool.Decides.{nat_tests}
use Rattle.form_urlencoded.specs.Form.{decode, plus_to_space}
use Rattle.percent_encoding.specs.Percent.{is_escape, percent_decode}
use Rattle.cd_fill.specs.Escapes.{begins_escape, escape_value}

-- ---- a `+` is in no escape

sign-kept : (a : ℕ) (b : Bool) → (a == 43) ≡ b → ((if b then 32 else a) == 37) ≡ (a == 37)
sign-kept a b e = search rules

digit-kept : (a : ℕ) (b : Bool) → (a == 43) ≡ b → is_digit (if b then 32 else a) 16 ≡ is_digit a 16
digit-kept a b e = search rules

escape-kept : (a b c : ℕ) → is_escape (plus_to_space a) (plus_to_space b) (plus_to_space c) ≡ is_escape a b c
escape-kept a b c = rw (sign-kept a (a == 43) refl, digit-kept b (b == 43) refl, digit-kept c (c == 43) refl) refl

same-digit : (a : ℕ) (b : Bool) → (a == 43) ≡ b → is_digit a 16 ≡ true → (if b then 32 else a) ≡ a
same-digit a b e h = search rules

-- ---- byte by byte

-- no bytes stand for none
pub meant_none : (raw : List ℕ) → (length raw == 0) ≡ true → decode raw ≡ []
unfolding percent_decode
meant_none [] h = refl
meant_none (a ∷ raw) h = absurd (omega (arith, eqb-true (length (a ∷ raw)) 0 h))

-- an escape stands for its byte
escape-first : (a b c : ℕ) (rest : List ℕ) → is_escape a b c ≡ true → decode (a ∷ (b ∷ (c ∷ rest))) ≡ (16 * digit_value b + digit_value c) ∷ decode rest
unfolding percent_decode
escape-first a b c rest h = search rules

pub meant_escape : (raw : List ℕ) → begins_escape raw ≡ true → decode raw ≡ escape_value raw ∷ decode (drop 3 raw)
meant_escape raw h = search (rules, escape-first, and_parts)

-- any other byte stands for itself, and `+` for a space
plain-first : (a b c : ℕ) (rest : List ℕ) → is_escape a b c ≡ false → decode (a ∷ (b ∷ (c ∷ rest))) ≡ plus_to_space a ∷ decode (b ∷ (c ∷ rest))
unfolding percent_decode
plain-first a b c rest h = rw (escape-kept a b c ∙ h) refl

long-enough : (n : ℕ) → nat_le 3 (suc (suc (suc n))) ≡ true
long-enough n = grind (arith, nat_tests)

pub meant_plain : (raw : List ℕ) → begins_escape raw ≡ false → (length raw == 0) ≡ false → decode raw ≡ plus_to_space (slice_index raw 0) ∷ decode (drop 1 raw)
unfolding percent_decode
meant_plain [] h some = cc
meant_plain (a ∷ []) h some = refl
meant_plain (a ∷ (b ∷ [])) h some = refl
meant_plain (a ∷ (b ∷ (c ∷ rest))) h some = plain-first a b c rest (ap (λ long. long && is_escape a b c) (sym (long-enough (length rest))) ∙ h)

-- what is left is shorter
pub escape_length : (raw : List ℕ) → begins_escape raw ≡ true → length (drop 3 raw) < length raw
escape_length raw h = search rules

pub some_length : (raw : List ℕ) → (length raw == 0) ≡ false → length (drop 1 raw) < length raw
some_length raw some = search rules

-- ---- compared with a text

not-zero : (n : ℕ) → (suc n == 0) ≡ false
not-zero n = grind (arith, nat_tests)

-- no bytes stand for the empty text alone
pub nothing_meant : (text : List ℕ) → bytes_eq [] text ≡ (length text == 0)
nothing_meant text = search rules

-- behind a front that both have what follows decides
same-first : (byte : ℕ) (xs ys : List ℕ) → bytes_eq (byte ∷ xs) (byte ∷ ys) ≡ bytes_eq xs ys
same-first byte xs ys = let same : nat_eq byte byte ≡ true = grind (arith, nat_tests) in rw same refl

same-front : (front xs ys : List ℕ) → bytes_eq (front ++ xs) (front ++ ys) ≡ bytes_eq xs ys
same-front [] xs ys = refl
same-front (byte ∷ front) xs ys = same-first byte (front ++ xs) (front ++ ys) ∙ same-front front xs ys

-- one character more, in both
pub same_character : (character : ℕ) (meant text others rest : List ℕ) → meant ≡ encode_utf8 character ++ others → text ≡ encode_utf8 character ++ rest → bytes_eq meant text ≡ bytes_eq others rest
same_character character meant text others rest meant_is text_is = rw (meant_is, text_is) (same-front (encode_utf8 character) others rest)

-- another character in the text, or none
pub other_character : (character : ℕ) (meant text others : List ℕ) → meant ≡ encode_utf8 character ++ others → ((rest : List ℕ) → text ≡ encode_utf8 character ++ rest → ⊥) → bytes_eq meant text ≡ false
other_character character meant text others meant_is other = search rules
