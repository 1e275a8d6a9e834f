-- Where the colon of an address is, and the number that digits write.
use Rattle.std.proofs.Common.{◌≡◌, ℕ, ◌+◌, ◌-◌, ◌*◌, ◌<◌, Bool, true, false, cond, not, ◌||◌, List, [], ◌∷◌, ◌++◌, get_or, length, take, refl, sym, ap, ◌∙◌, arith, Option, if◌then◌else◌}
use Rattle.std.specs.List.{list_any, position_or_len}
use Rattle.std.specs.List.{before_first, after_first}
use Rattle.std.proofs.lemmas.List.{take_more}
use Rattle.cd_caddyfile.specs.Addresses.{number, is_colon, host_alone, host_then_port, host_and_port}
use Rattle.cd_caddyfile.specs.declared.address.Address.{Address}

none_here : (b : Bool) (n m : ℕ) (rest : Bool) → cond (not b) (1 + n) 0 ≡ 1 + m → (n ≡ m → rest ≡ false) → (b || rest) ≡ false
none_here true n m rest is known = absurd (omega arith)
none_here false n m rest is known = known (omega arith)

pub no_place : {A : Type 0} (p : A → Bool) (xs : List A) → position_or_len p xs ≡ length xs → list_any p xs ≡ false
no_place p [] is = refl
no_place p (x ∷ xs) is = none_here (p x) (position_or_len p xs) (length xs) (list_any p xs) (omega arith) (no_place p xs)

some_here : (b : Bool) (n m : ℕ) (rest : Bool) → cond (not b) (1 + n) 0 < 1 + m → (n < m → rest ≡ true) → (b || rest) ≡ true
some_here true n m rest less known = refl
some_here false n m rest less known = known (omega arith)

pub a_place : {A : Type 0} (p : A → Bool) (xs : List A) → position_or_len p xs < length xs → list_any p xs ≡ true
a_place p [] less = absurd (omega arith)
a_place p (x ∷ xs) less = some_here (p x) (position_or_len p xs) (length xs) (list_any p xs) (omega arith) (a_place p xs)

pub number-snoc : (n : ℕ) (ds : List ℕ) (d : ℕ) → number n (ds ++ d ∷ []) ≡ number n ds * 10 + (d - 48)
number-snoc n [] d = refl
number-snoc n (x ∷ ds) d = number-snoc (n * 10 + (x - 48)) ds d

pub number_take : (n : ℕ) (ds : List ℕ) (i : ℕ) → i < length ds → number n (take (i + 1) ds) ≡ number n (take i ds) * 10 + (get_or ds i 0 - 48)
number_take n ds i within = ap (number n) (take_more ds i 0 within) ∙ number-snoc n (take i ds) (get_or ds i 0)

chosen : {A : Type 0} (b c : Bool) (x y : A) → b ≡ c → (if b then x else y) ≡ (if c then x else y)
chosen b c x y is = ap (λ t. if t then x else y) is

pub alone : (text : List ℕ) (found : Option Address) → position_or_len is_colon text ≡ length text → found ≡ host_alone text → found ≡ host_and_port text
alone text found is found-is =
    found-is ∙ sym (chosen (list_any is_colon text) false (host_then_port (before_first is_colon text) (after_first is_colon text) text) (host_alone text) (no_place is_colon text is))

pub parted : (text host port : List ℕ) (found : Option Address) → position_or_len is_colon text < length text →
    host ≡ before_first is_colon text → port ≡ after_first is_colon text → found ≡ host_then_port host port text → found ≡ host_and_port text
parted text host port found less host-is port-is found-is =
    found-is ∙ (ap (λ h. host_then_port h port text) host-is ∙ (ap (λ p. host_then_port (before_first is_colon text) p text) port-is
    ∙ sym (chosen (list_any is_colon text) true (host_then_port (before_first is_colon text) (after_first is_colon text) text) (host_alone text) (a_place is_colon text less))))
