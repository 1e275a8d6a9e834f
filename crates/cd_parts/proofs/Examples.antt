-- Each relation where it holds, and a near miss.
use Rattle.std.proofs.Common.{◌≡◌, true, false, ℕ, suc, List, [], ◌∷◌, Some, None, refl, sym, ap, ◌∙◌, true≢false, arith}
use Rattle.std.specs.Prelude.{IsUtf8}
use Rattle.std.specs.Str.{is_utf8, chars}
use lib.Utf8.{encode}
use Rattle.std.proofs.lemmas.List.Elements.{All-nil, All-cons, All-head}
use Rattle.std.proofs.lemmas.Str.{IsUtf8-from_is_utf8, is_utf8-from_IsUtf8}
use Rattle.cd_caddyfile.specs.FileSites.{test_line}
use Rattle.cd_caddyfile.specs.Shape.{set_of}
use Rattle.cd_caddyfile.specs.Sites.{Tests, Wanted, no_tests}
use Rattle.cd_caddyfile.specs.declared.named.TestLine.{TestLine}
use Rattle.cd_parts.specs.Matching.{Agrees}
use Rattle.cd_parts.specs.Measures.{measured}
use Rattle.cd_parts.specs.Texts.{AreTexts, IsTextual, TestsAreTexts, LinesAreTexts}
use Rattle.cd_parts.specs.declared.measured.Measured.{Measured}

-- ---- texts

-- `é`
abbrev pub letter : List ℕ
letter = 195 ∷ 169 ∷ []

is_text : IsUtf8 letter
unfolding is_utf8 chars encode
is_text = IsUtf8-from_is_utf8 letter refl

-- the first of its two bytes
abbrev pub half : List ℕ
half = 195 ∷ []

half_is_none : is_utf8 half ≡ false
unfolding is_utf8 chars encode
half_is_none = refl

pub not_text : IsUtf8 half → ⊥
not_text is = true≢false (sym (is_utf8-from_IsUtf8 half is) ∙ half_is_none)

pub texts : AreTexts (letter ∷ [])
texts = All-cons (λ word. IsUtf8 word) letter [] is_text (All-nil (λ word. IsUtf8 word))

pub not_texts : AreTexts (half ∷ []) → ⊥
not_texts are = not_text (All-head (λ word. IsUtf8 word) half [] are)

textual : IsTextual (record { name = letter; values = [] })
textual = (is_text, All-nil (λ word. IsUtf8 word))

-- the value is none
not_textual : IsTextual (record { name = letter; values = half ∷ [] }) → ⊥
not_textual is = not_texts is.1

tests_of_texts : TestsAreTexts no_tests
tests_of_texts = record { path = tt; method = tt; host = tt; header = All-nil (λ w. IsTextual w); query = All-nil (λ w. IsTextual w) }

not_tests_of_texts : TestsAreTexts (record no_tests { path = Some (half ∷ []) }) → ⊥
not_tests_of_texts are = not_texts are.path

lines_of_texts : LinesAreTexts (test_line 2 (letter ∷ []) ∷ [])
lines_of_texts = All-cons (λ (l : TestLine). AreTexts l.words) (test_line 2 (letter ∷ [])) [] texts (All-nil (λ (l : TestLine). AreTexts l.words))

not_lines_of_texts : LinesAreTexts (test_line 2 (half ∷ []) ∷ []) → ⊥
not_lines_of_texts are = not_texts (All-head (λ (l : TestLine). AreTexts l.words) (test_line 2 (half ∷ [])) [] are)

-- ---- sets

agrees : Agrees (λ name. measured (set_of no_tests)) (λ name. no_tests)
agrees name = refl

-- the set nests one level more
not_agrees : Agrees (λ name. let m = measured (set_of no_tests) in record m { depth = suc m.depth }) (λ name. no_tests) → ⊥
not_agrees are = let h : suc (measured (set_of no_tests)).depth ≡ (measured (set_of no_tests)).depth = ap (λ (m : Measured). m.depth) (are []) in omega (arith, h)
