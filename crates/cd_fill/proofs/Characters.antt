-- Meant bytes as a text, character by character.
use Rattle.std.proofs.Common.{◌≡◌, ℕ, ◌<◌, ◌≤◌, ◌-◌, List, ◌∷◌, ◌++◌, length, take, drop, ap, sym, ◌∙◌, arith, encode_utf8, encode_utf8_all, rules}
use Rattle.std.specs.Str.Lossy.{utf8_lossy}
use Rattle.std.proofs.lemmas.Bool.Decides.{nat_tests}
use Rattle.bstr.specs.Utf8.{Decoded, decoded, decoded_by, or_replacement}
use Rattle.bstr.proofs.lemmas.PieceLemmas.{lossy_chars-step, piece-bounds, value-1}
use Rattle.bstr.proofs.lemmas.LossyLemmas.{lossy_chars-utf8_lossy}

-- the first piece is a character, and the others are a text by themselves
step : (bytes : List ℕ) → 0 < length bytes → utf8_lossy bytes ≡ encode_utf8 (or_replacement (decoded bytes).char) ++ utf8_lossy (drop (decoded bytes).size bytes)
step bytes some =
    let others = drop (decoded bytes).size bytes in
    sym (lossy_chars-utf8_lossy bytes) ∙ ap encode_utf8_all (lossy_chars-step bytes some)
    ∙ ap (λ rest. encode_utf8 (or_replacement (decoded bytes).char) ++ rest) (lossy_chars-utf8_lossy others)

-- where there are four bytes, no more are looked at
enough : (n a b c d : ℕ) → 4 ≤ n → decoded_by 4 a b c d ≡ decoded_by n a b c d
enough n a b c d h = search (rules, nat_tests)

by_four : (bytes : List ℕ) → decoded (take 4 bytes) ≡ decoded bytes
by_four bytes = search (rules, enough)

-- a piece has a byte
pub some_size : (byte size : ℕ) (rest front : List ℕ) → front ≡ take 4 (byte ∷ rest) → size ≡ (decoded front).size → 0 < size
some_size byte size rest front front_is size_is = search (rules, by_four, piece-bounds)

behind : (size byte : ℕ) (rest : List ℕ) → 0 < size → drop size (byte ∷ rest) ≡ drop (size - 1) rest
behind size byte rest h = search rules

-- the first character is known by the first four bytes
pub first_piece : (byte character size : ℕ) (rest front : List ℕ) → front ≡ take 4 (byte ∷ rest) → character ≡ or_replacement (decoded front).char → size ≡ (decoded front).size → utf8_lossy (byte ∷ rest) ≡ encode_utf8 character ++ utf8_lossy (drop (size - 1) rest)
first_piece byte character size rest front front_is character_is size_is =
    let known : decoded front ≡ decoded (byte ∷ rest) = ap decoded front_is ∙ by_four (byte ∷ rest) in
    let first : or_replacement (decoded (byte ∷ rest)).char ≡ character = sym (character_is ∙ ap (λ (z : Decoded). or_replacement z.char) known) in
    let length_is : (decoded (byte ∷ rest)).size ≡ size = sym (size_is ∙ ap (λ (z : Decoded). z.size) known) in
    let others : drop (decoded (byte ∷ rest)).size (byte ∷ rest) ≡ drop (size - 1) rest = ap (λ n. drop n (byte ∷ rest)) length_is ∙ behind size byte rest (some_size byte size rest front front_is size_is) in
    step (byte ∷ rest) (omega arith) ∙ ap (λ z. encode_utf8 z ++ utf8_lossy (drop (decoded (byte ∷ rest)).size (byte ∷ rest))) first
    ∙ ap (λ z. encode_utf8 character ++ utf8_lossy z) others

-- a byte of ASCII is a character
pub ascii_first : (byte : ℕ) (rest : List ℕ) → byte < 128 → utf8_lossy (byte ∷ rest) ≡ encode_utf8 byte ++ utf8_lossy rest
ascii_first byte rest low = search (rules, value-1, step)
