-- Texts that are cut at a byte which they have, or have not.
use Rattle.std.proofs.Common.{◌≡◌, ℕ, suc, ◌+◌, List, [], ◌∷◌, ◌++◌, length, take, drop, Bool, true, false, Option, Some, None, ap, ◌∙◌, refl, arith, eqb-true}
use Rattle.std.specs.Prelude.{◌==◌, not, nat_lt, if◌then◌else◌}
use Rattle.std.specs.List.{list_all, list_any, position_or_len}
use Rattle.std.proofs.lemmas.Bool.{and_parts, and_from, eq-eqb}
use Rattle.std.proofs.lemmas.List.{length-append}
use Rattle.std.proofs.lemmas.List.Folds.{list_all-append}
use Rattle.std.proofs.Math.Seq.{take-append_seam, drop-append-add}
use Rattle.cd_addr.specs.Addresses.{Parts, cut_at, after_leading}
use Rattle.cd_addr.proofs.Ports.{is_lt, no_lt}

-- another byte
abbrev pub other_than : ℕ → ℕ → Bool
other_than byte b = not (b == byte)

apart_by : (p : ℕ → Bool) (c b : ℕ) (t : Bool) → (b == c) ≡ t → p c ≡ false → p b ≡ true → not t ≡ true
apart_by p c b true e fails passes = let same : p b ≡ p c = ap p (eqb-true b c e) in cc
apart_by p c b false e fails passes = refl

-- what passes a test in each element passes a weaker one
pub weaker : (p q : ℕ → Bool) → ((b : ℕ) → p b ≡ true → q b ≡ true) → (s : List ℕ) → list_all p s ≡ true → list_all q s ≡ true
weaker p q h [] a = refl
weaker p q h (b ∷ s) a = and_from _ _ (h b (and_parts _ _ a).0) (weaker p q h s (and_parts _ _ a).1)

-- a byte that fails a test is not among those that pass
pub without : (p : ℕ → Bool) (c : ℕ) → p c ≡ false → (s : List ℕ) → list_all p s ≡ true → list_all (other_than c) s ≡ true
without p c fails s a = weaker p (other_than c) (λ b passes. apart_by p c b (b == c) refl fails passes) s a

-- both parts of a text pass
pub both_parts : (p : ℕ → Bool) (xs ys : List ℕ) → list_all p xs ≡ true → list_all p ys ≡ true → list_all p (xs ++ ys) ≡ true
both_parts p xs ys x y = list_all-append p xs ys ∙ and_from _ _ x y

not_true : (t : Bool) → not t ≡ true → t ≡ false
not_true true h = cc
not_true false h = refl

next : (n : ℕ) → 1 + n ≡ suc n
next n = omega arith

-- where a byte is not there, its place is the end
place_none : (byte : ℕ) (s : List ℕ) → list_all (other_than byte) s ≡ true → position_or_len (λ b. b == byte) s ≡ length s
place_none byte [] h = refl
place_none byte (b ∷ s) h = rw (not_true (b == byte) (and_parts _ _ h).0) (ap (λ n. 1 + n) (place_none byte s (and_parts _ _ h).1) ∙ next (length s))

-- where it follows bytes that are others, its place is after them
place_some : (byte : ℕ) (s rest : List ℕ) → list_all (other_than byte) s ≡ true → position_or_len (λ b. b == byte) (s ++ byte ∷ rest) ≡ length s
place_some byte [] rest h = rw (eq-eqb byte byte refl) refl
place_some byte (b ∷ s) rest h = rw (not_true (b == byte) (and_parts _ _ h).0) (ap (λ n. 1 + n) (place_some byte s rest (and_parts _ _ h).1) ∙ next (length s))

-- the parts before and after a place
cut_by : ℕ → List ℕ → Option Parts
cut_by n s = if nat_lt n (length s) then Some (take n s, drop (n + 1) s) else None

-- a text without the byte is not cut
pub uncut : (byte : ℕ) (s : List ℕ) → list_all (other_than byte) s ≡ true → cut_at byte s ≡ None
unfolding cut_at cut_by
uncut byte s h = ap (λ n. cut_by n s) (place_none byte s h) ∙ rw (no_lt (length s) (length s) (omega arith)) refl

-- one that has it is cut at the first one
pub cut_there : (byte : ℕ) (s rest : List ℕ) → list_all (other_than byte) s ≡ true → cut_at byte (s ++ byte ∷ rest) ≡ Some (s, rest)
unfolding cut_at cut_by
cut_there byte s rest h =
    ap (λ n. cut_by n (s ++ byte ∷ rest)) (place_some byte s rest h)
    ∙ rw (is_lt (length s) (length (s ++ byte ∷ rest)) (omega (arith, length-append s (byte ∷ rest))), take-append_seam s (byte ∷ rest), drop-append-add s (byte ∷ rest) 1) refl

lead_by : (t : Bool) (s : List ℕ) → not t ≡ true → (if t then Some s else None) ≡ None
lead_by true s h = cc
lead_by false s h = refl

-- nor does a text begin with a byte that it has not
pub no_lead : (byte : ℕ) (s : List ℕ) → list_all (other_than byte) s ≡ true → after_leading byte s ≡ None
no_lead byte [] h = refl
no_lead byte (b ∷ s) h = lead_by (b == byte) s (and_parts _ _ h).0

-- no byte is this one
pub not_any : (byte : ℕ) (s : List ℕ) → list_all (other_than byte) s ≡ true → list_any (λ b. b == byte) s ≡ false
not_any byte [] h = refl
not_any byte (b ∷ s) h = rw (not_true (b == byte) (and_parts _ _ h).0) (not_any byte s (and_parts _ _ h).1)
