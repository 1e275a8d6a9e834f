-- A good word does not end in a byte 0.
use Rattle.std.proofs.Common.{◌≡◌, ℕ, suc, ◌+◌, ◌<◌, Bool, true, false, ◌||◌, ◌==◌, cond, List, [], ◌∷◌, ◌++◌, length, take, drop, Option, Some, None, option_and_then, ⊎_elim, refl, sym, ap, ◌∙◌, subst, arith}
use Rattle.std.proofs.lemmas.Bool.{false≢true, eqb-true, leb-true, and_parts, or_cases}
use Rattle.std.proofs.lemmas.List.{take-append-drop}
use Rattle.std.proofs.lemmas.Slice.Eq.{bytes_eq-Decides}
use Rattle.std.specs.List.{prefix_len}
use Rattle.std.specs.Char.{is_ascii_digit}
use Rattle.json.specs.Token.{Token}
use Rattle.json.specs.Word.{is_operator, is_space, head, ends_word, after_digits, after_minus, after_sign, after_whole, after_fraction, after_exponent, after_number, number_before, literal, word}
use Rattle.json.specs.Align.{is_good}

-- a word ends before this byte
abbrev pub stops : ℕ → Bool
stops x = is_operator x || is_space x

-- the last byte of the word that goes on here, after this byte
abbrev pub word_end : ℕ → List ℕ → ℕ
word_end before [] = before
word_end before (x ∷ xs) = cond (stops x) before (word_end x xs)

-- it is not 0, where a byte other than 0 is before it
abbrev pub Solid : List ℕ → Type 0
Solid t = word_end 1 t ≡ 0 → ⊥

some : (n : ℕ) → 0 < n → n ≡ 0 → ⊥
some n more is = absurd (omega (arith, more, is))

one_of : (b : Bool) (x y : ℕ) → (x ≡ 0 → ⊥) → (y ≡ 0 → ⊥) → cond b x y ≡ 0 → ⊥
one_of true x y p q = p
one_of false x y p q = q

other_before : (b : Bool) (x y z : ℕ) → (y ≡ 0 → ⊥) → (cond b x z ≡ 0 → ⊥) → cond b y z ≡ 0 → ⊥
other_before true x y z p q = p
other_before false x y z p q = q

-- what is before makes no difference, unless it is 0 itself
pub solid_after : (x : ℕ) (t : List ℕ) → (x ≡ 0 → ⊥) → Solid t → word_end x t ≡ 0 → ⊥
solid_after x [] p s = p
solid_after x (y ∷ ys) p s = other_before (stops y) 1 x (word_end y ys) p s

one_more : (x : ℕ) (xs : List ℕ) → (x ≡ 0 → ⊥) → Solid xs → Solid (x ∷ xs)
one_more x xs p s = one_of (stops x) 1 (word_end x xs) (some 1 (omega arith)) (solid_after x xs p s)

byte : (c : ℕ) (t : List ℕ) → 0 < c → (head t == c) ≡ true → Solid (drop 1 t) → Solid t
byte c [] more is s = some 1 (omega arith)
byte c (x ∷ xs) more is s = one_more x xs (λ z. some c more (sym (eqb-true x c is) ∙ z)) s

either : (a b : ℕ) (t : List ℕ) → 0 < a → 0 < b → ((head t == a) || (head t == b)) ≡ true → Solid (drop 1 t) → Solid t
either a b t p q is s = ⊎_elim (λ one. byte a t p one s) (λ two. byte b t q two s) (or_cases (head t == a) (head t == b) is)

optional : (b : Bool) (t : List ℕ) → (b ≡ true → Solid (drop 1 t) → Solid t) → Solid (cond b (drop 1 t) t) → Solid t
optional true t p s = p refl s
optional false t p s = s

digit : (x : ℕ) → is_ascii_digit x ≡ true → x ≡ 0 → ⊥
digit x is zero_byte = let big = leb-true 48 x (and_parts _ _ is).0 in absurd (omega (arith, big, zero_byte))

digits_turn : (b : Bool) (x : ℕ) (xs : List ℕ) (n : ℕ) → (b ≡ true → x ≡ 0 → ⊥) → (Solid (drop n xs) → Solid xs) → Solid (drop (cond b (1 + n) 0) (x ∷ xs)) → Solid (x ∷ xs)
digits_turn false x xs n p again s = s
digits_turn true x xs n p again s =
    let next : 1 + n ≡ suc n = omega arith in
    one_more x xs (p refl) (again (subst (λ k. Solid (drop k (x ∷ xs))) next s))

digits : (t : List ℕ) → Solid (drop (prefix_len is_ascii_digit t) t) → Solid t
digits [] s = s
digits (x ∷ xs) s = digits_turn (is_ascii_digit x) x xs (prefix_len is_ascii_digit xs) (digit x) (digits xs) s

-- ---- the parts of a number

-- there is such a part, and what follows it is solid
abbrev Leaves : Option (List ℕ) → Type 0
Leaves None = ⊥
Leaves (Some rest) = Solid rest

test : (b : Bool) (x y : Option (List ℕ)) (P : Type 0) → (b ≡ true → Leaves x → P) → (Leaves y → P) → Leaves (cond b x y) → P
test true x y P p q s = p refl s
test false x y P p q s = q s

some_digits : (t : List ℕ) → Leaves (after_digits t) → Solid t
some_digits t = test (prefix_len is_ascii_digit t == 0) None (Some (drop (prefix_len is_ascii_digit t) t)) (Solid t) (λ is none. absurd none) (digits t)

exponent : (t : List ℕ) → Leaves (after_exponent t) → Solid t
exponent t =
    test ((head t == 101) || (head t == 69)) (after_digits (after_sign (drop 1 t))) (Some t) (Solid t)
    (λ is s. either 101 69 t (omega arith) (omega arith) is (optional ((head (drop 1 t) == 45) || (head (drop 1 t) == 43)) (drop 1 t) (either 45 43 (drop 1 t) (omega arith) (omega arith)) (some_digits (after_sign (drop 1 t)) s))) (λ s. s)

fraction : (t : List ℕ) → Leaves (after_fraction t) → Solid t
fraction t = test (head t == 46) (after_digits (drop 1 t)) (Some t) (Solid t) (λ is s. byte 46 t (omega arith) is (some_digits (drop 1 t) s)) (λ s. s)

whole : (t : List ℕ) → Leaves (after_whole t) → Solid t
whole t = test (head t == 48) (Some (drop 1 t)) (after_digits t) (Solid t) (λ is s. byte 48 t (omega arith) is s) (some_digits t)

back : (f : List ℕ → Option (List ℕ)) → ((t : List ℕ) → Leaves (f t) → Solid t) → (o : Option (List ℕ)) → Leaves (option_and_then f o) → Leaves o
back f p None s = s
back f p (Some t) s = p t s

number : (t : List ℕ) → Leaves (after_number t) → Solid t
unfolding after_number
number t s =
    optional (head t == 45) t (byte 45 t (omega arith))
    (whole (after_minus t) (back after_fraction fraction (after_whole (after_minus t)) (back after_exponent exponent (option_and_then after_fraction (after_whole (after_minus t))) s)))

-- ---- words

stopped : (b : Bool) (n : ℕ) → b ≡ true → cond b 1 n ≡ 0 → ⊥
stopped true n is = some 1 (omega arith)
stopped false n is = absurd (false≢true is)

ended : (t : List ℕ) → ends_word t ≡ true → Solid t
ended [] is = some 1 (omega arith)
ended (x ∷ xs) is = stopped (stops x) (word_end x xs) is

passed : (b : Bool) (t : Token) → is_good (cond b t Token.bad) ≡ true → b ≡ true
passed true t is = refl
passed false t is = is

number_word : (t : List ℕ) (o : Option (List ℕ)) → is_good (number_before t o) ≡ true → Leaves o
number_word t None is = absurd (false≢true is)
number_word t (Some rest) is = ended rest (passed (ends_word rest) _ is)

literal_word : (name : List ℕ) (k : Token) (t : List ℕ) → ((rest : List ℕ) → Solid rest → Solid (name ++ rest)) → is_good (literal name k t) ≡ true → Solid t
literal_word name k t before is =
    let both = and_parts _ _ (passed _ k is) in
    let front : name ≡ take (length name) t = (bytes_eq-Decides name (take (length name) t)).0 both.0 in
    subst Solid (ap (λ l. l ++ drop (length name) t) front ∙ take-append-drop (length name) t) (before (drop (length name) t) (ended (drop (length name) t) both.1))

choice : (b : Bool) (x y : Token) (P : Type 0) → (is_good x ≡ true → P) → (is_good y ≡ true → P) → is_good (cond b x y) ≡ true → P
choice true x y P p q = p
choice false x y P p q = q

four : (a b c d : ℕ) → 0 < a → 0 < b → 0 < c → 0 < d → (rest : List ℕ) → Solid rest → Solid (a ∷ b ∷ c ∷ d ∷ rest)
four a b c d p q r s rest solid = one_more a (b ∷ c ∷ d ∷ rest) (some a p) (one_more b (c ∷ d ∷ rest) (some b q) (one_more c (d ∷ rest) (some c r) (one_more d rest (some d s) solid)))

pub good_word : (t : List ℕ) → is_good (word t) ≡ true → Solid t
unfolding word
good_word t =
    choice (head t == 116) _ _ _ (literal_word (116 ∷ 114 ∷ 117 ∷ 101 ∷ []) (Token.boolean true) t (four 116 114 117 101 (omega arith) (omega arith) (omega arith) (omega arith)))
    (choice (head t == 102) _ _ _ (literal_word (102 ∷ 97 ∷ 108 ∷ 115 ∷ 101 ∷ []) (Token.boolean false) t (λ rest s. one_more 102 (97 ∷ 108 ∷ 115 ∷ 101 ∷ rest) (some 102 (omega arith)) (four 97 108 115 101 (omega arith) (omega arith) (omega arith) (omega arith) rest s)))
    (choice (head t == 110) _ _ _ (literal_word (110 ∷ 117 ∷ 108 ∷ 108 ∷ []) Token.null t (four 110 117 108 108 (omega arith) (omega arith) (omega arith) (omega arith))) (λ is. number t (number_word t (after_number t) is))))
