-- How long the text of JSON tokens is at most.
use Rattle.std.proofs.Common.{◌≡◌, ℕ, ◌+◌, ◌*◌, ◌≤◌, ◌/◌, ◌%◌, List, [], ◌∷◌, ◌++◌, length, Bool, true, false, cond, ◌&&◌, nat_lt, arith, length-append}
use Rattle.std.proofs.lemmas.List.Concat.{flat_map-cons}
use Rattle.std.specs.Char.{digit_char}
use Rattle.json.specs.Print.{escape, escape_byte, escape_letter, token_text, begins, ends, print_from}
use Rattle.json.specs.Token.{Token, begin_object, end_object, begin_array, end_array, key, string, number, boolean, null, bad}

chosen_short : (b c : Bool) (xs ys zs : List ℕ) → length xs ≤ 6 → length ys ≤ 6 → length zs ≤ 6 → length {A = ℕ} (cond b xs (cond c ys zs)) ≤ 6
chosen_short true c xs ys zs p q r = p
chosen_short false true xs ys zs p q r = q
chosen_short false false xs ys zs p q r = r

byte_short : (x : ℕ) → length (escape_byte x) ≤ 6
unfolding escape_byte
byte_short x =
    chosen_short (nat_lt 0 (escape_letter x)) (nat_lt x 32) (92 ∷ escape_letter x ∷ [])
    (92 ∷ 117 ∷ 48 ∷ 48 ∷ digit_char (x / 16) ∷ digit_char (x % 16) ∷ []) (x ∷ []) (omega arith) (omega arith) (omega arith)

escape_short : (s : List ℕ) → length (escape s) ≤ 6 * length s
escape_short [] = omega arith
escape_short (x ∷ s) = rw (flat_map-cons escape_byte x s) (simp length-append (omega (arith, byte_short x, escape_short s)))

-- the most bytes that a token takes, with the comma before it
abbrev pub weight : Token → ℕ
weight begin_object = 2
weight end_object = 2
weight begin_array = 2
weight end_array = 2
weight (key s) = 6 * length s + 4
weight (string s) = 6 * length s + 3
weight (number s) = length s + 1
weight (boolean b) = 6
weight null = 5
weight bad = 1

abbrev pub weights : List Token → ℕ
weights [] = 0
weights (t ∷ ts) = weight t + weights ts

pub weights-append : (ts us : List Token) → weights (ts ++ us) ≡ weights ts + weights us
weights-append [] us = omega arith
weights-append (t ∷ ts) us = omega (arith, weights-append ts us)

token_short : (t : Token) → length (token_text t) + 1 ≤ weight t
token_short begin_object = omega arith
token_short end_object = omega arith
token_short begin_array = omega arith
token_short end_array = omega arith
token_short (key s) = simp length-append (omega (arith, escape_short s))
token_short (string s) = simp length-append (omega (arith, escape_short s))
token_short (number s) = omega arith
token_short (boolean true) = omega arith
token_short (boolean false) = omega arith
token_short null = omega arith
token_short bad = omega arith

comma_short : (b : Bool) → length {A = ℕ} (cond b (44 ∷ []) []) ≤ 1
comma_short true = omega arith
comma_short false = omega arith

pub print_short : (b : Bool) (ts : List Token) → length (print_from b ts) ≤ weights ts
unfolding print_from
print_short b [] = omega arith
print_short b (t ∷ ts) = simp length-append (omega (arith, comma_short (b && begins t), token_short t, print_short (ends t) ts))
