-- The bytes that may stand in a tag are ASCII, and so UTF-8.
use Rattle.std.proofs.Common.{◌≡◌, ℕ, ◌<◌, ◌≤◌, List, Bool, true, false, sym, ◌∙◌, true≢false, inl, inr, arith}
use Rattle.std.specs.Prelude.{All}
use Rattle.std.specs.List.{list_all}
use Rattle.std.specs.Str.{IsUtf8}
use Rattle.std.proofs.lemmas.Bool.{cases_lt}
use Rattle.std.proofs.lemmas.Bool.Decides.{nat_tests}
use Rattle.std.proofs.lemmas.List.Sums.{AllPass-from_list_all}
use Rattle.std.proofs.lemmas.Str.{IsUtf8-from_ascii}
use Rattle.std.proofs.lemmas.Str.Ascii.{IsAscii-from_all}
use Rattle.cd_tags.specs.IfMatch.{is_lower_hex, is_path_byte}

all_small : (p : ℕ → Bool) → ((b : ℕ) → p b ≡ true → b < 128) → (bs : List ℕ) → list_all p bs ≡ true → All (λ b. b < 128) bs
all_small p small bs e k d within = small _ (AllPass-from_list_all p bs e k d within)

high_digit : (b : ℕ) → 128 ≤ b → is_lower_hex b ≡ false
high_digit b h = grind (arith, nat_tests)

high_path : (b : ℕ) → 128 ≤ b → is_path_byte b ≡ false
high_path b h = grind (arith, nat_tests)

small_digit : (b : ℕ) → is_lower_hex b ≡ true → b < 128
small_digit b e = elim (cases_lt b 128) [ inl h ↦ h | inr h ↦ absurd (true≢false (sym e ∙ high_digit b h)) ]

small_path : (b : ℕ) → is_path_byte b ≡ true → b < 128
small_path b e = elim (cases_lt b 128) [ inl h ↦ h | inr h ↦ absurd (true≢false (sym e ∙ high_path b h)) ]

pub digits_utf8 : (bs : List ℕ) → list_all is_lower_hex bs ≡ true → IsUtf8 bs
digits_utf8 bs e = IsUtf8-from_ascii bs (IsAscii-from_all bs (all_small is_lower_hex small_digit bs e))

pub path_utf8 : (bs : List ℕ) → list_all is_path_byte bs ≡ true → IsUtf8 bs
path_utf8 bs e = IsUtf8-from_ascii bs (IsAscii-from_all bs (all_small is_path_byte small_path bs e))
