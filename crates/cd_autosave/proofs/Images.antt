-- What the slots of an image hold, and what they keep under writes.
use Rattle.std.proofs.Common.{◌≡◌, inl, inr, ℕ, zero, suc, ◌+◌, ◌<◌, ◌≤◌, ◌&&◌, ◌==◌, nat_lt, true, false, List, [], ◌∷◌, length, refl, sym, ◌∙◌, ap, arith, Some, None}
use Rattle.std.proofs.lemmas.Bool.{cases_lt, cases_Bool, lt-ltb, le-ltb, cond-true, cond-false}
use Rattle.std.proofs.lemmas.List.{get_or_past}
use Rattle.std.specs.Int.{w32, w64, from_be_bytes}
use Rattle.cd_autosave.specs.Image.{byte_at, bytes_at, Saved, is_open, length_at, saved_at, slot_at}
use Rattle.cd_autosave.specs.Disk.{PartWritten}
use Rattle.cd_autosave.specs.declared.limits.TheConstants.{SECOND_START}

-- ---- ranges

-- two images have the same bytes in a range
abbrev pub Agree : List ℕ → List ℕ → ℕ → ℕ → Type 0
Agree a b at count = (i : ℕ) → at ≤ i → i < at + count → byte_at a i ≡ byte_at b i

pub bytes_agree : (a b : List ℕ) (at count : ℕ) → Agree a b at count → bytes_at a at count ≡ bytes_at b at count
bytes_agree a b at zero agree = refl
bytes_agree a b at (suc count) agree =
    let first : byte_at a at ≡ byte_at b at = agree at (omega arith) (omega arith) in
    let rest : bytes_at a (suc at) count ≡ bytes_at b (suc at) count = bytes_agree a b (suc at) count (λ i low high. agree i (omega (arith, low)) (omega (arith, high))) in
    λ i. first i ∷ rest i

pub length-bytes_at : (image : List ℕ) (at count : ℕ) → length (bytes_at image at count) ≡ count
length-bytes_at image at zero = refl
length-bytes_at image at (suc count) = let rest = length-bytes_at image (suc at) count in omega (arith, rest)

-- the bytes that stand at a place are these
pub bytes_are : (image xs : List ℕ) (at : ℕ) → ((i : ℕ) → i < length xs → byte_at image (at + i) ≡ byte_at xs i) → bytes_at image at (length xs) ≡ xs
bytes_are image [] at are = refl
bytes_are image (x ∷ xs) at are =
    let zero_is : at + 0 ≡ at = omega arith in
    let first : byte_at image at ≡ x = ap (λ (n : ℕ). byte_at image n) (sym zero_is) ∙ are 0 (omega arith) in
    let rest : bytes_at image (suc at) (length xs) ≡ xs = bytes_are image xs (suc at) (λ i low.
    let next : at + suc i ≡ suc at + i = omega arith in
    ap (λ (n : ℕ). byte_at image n) (sym next) ∙ are (suc i) (omega (arith, low))) in
    λ i. first i ∷ rest i

-- ---- slots

pub saved_same : (a b : List ℕ) (start : ℕ) → Agree b a (start + 1) (12 + length_at a start) → saved_at b start ≡ saved_at a start
saved_same a b start agree =
    let number = ap (λ (bs : List ℕ). from_be_bytes w64 bs) (bytes_agree b a (start + 1) 8 (λ i low high. agree i (omega (arith, low)) (omega (arith, high)))) in
    let long : length_at b start ≡ length_at a start = ap (λ (bs : List ℕ). from_be_bytes w32 bs) (bytes_agree b a (start + 9) 4 (λ i low high. agree i (omega (arith, low)) (omega (arith, high)))) in
    let text : bytes_at b (start + 13) (length_at b start) ≡ bytes_at a (start + 13) (length_at a start) =
    ap (λ (n : ℕ). bytes_at b (start + 13) n) long ∙ bytes_agree b a (start + 13) (length_at a start) (λ i low high. agree i (omega (arith, low)) (omega (arith, high))) in
    λ i. record { number = number i; text = text i }

pub open_slot : (image : List ℕ) (start : ℕ) → is_open image start ≡ true → slot_at image start ≡ Some (saved_at image start)
open_slot image start is = cond-true (is_open image start) (Some (saved_at image start)) None is

pub shut_slot : (image : List ℕ) (start : ℕ) → is_open image start ≡ false → slot_at image start ≡ None
shut_slot image start is = cond-false (is_open image start) (Some (saved_at image start)) None is

some≢none : {A : Type 0} (x : A) → Some x ≡ None → ⊥
some≢none x is = cc is

-- what an open slot holds
pub opened : (image : List ℕ) (start : ℕ) (saved : Saved) → slot_at image start ≡ Some saved → (is_open image start ≡ true) × (saved_at image start ≡ saved)
opened image start saved is = elim (cases_Bool (is_open image start)) [
  | inl is_open_here ↦ (is_open_here, some_is (sym (open_slot image start is_open_here) ∙ is))
  | inr is_shut_here ↦ absurd (some≢none saved (sym is ∙ shut_slot image start is_shut_here))
]
  where
    some_is : {x y : Saved} → Some x ≡ Some y → x ≡ y
    some_is same = cc same

-- the same gate, and the same bytes where it is open
pub slot_same : (a b : List ℕ) (start : ℕ) → is_open b start ≡ is_open a start → (is_open a start ≡ true → Agree b a (start + 1) (12 + length_at a start)) → slot_at b start ≡ slot_at a start
slot_same a b start gates agree = elim (cases_Bool (is_open a start)) [
  | inl is_open_here ↦ open_slot b start (gates ∙ is_open_here) ∙ ap Some (saved_same a b start (agree is_open_here)) ∙ sym (open_slot a start is_open_here)
  | inr is_shut_here ↦ shut_slot b start (gates ∙ is_shut_here) ∙ sym (shut_slot a start is_shut_here)
]

-- ---- a write in part below a place

module _ (d c : List ℕ) (at n k : ℕ) (torn : PartWritten at n d c) (low : at + n ≤ k) where
  pub byte_above : (i : ℕ) → k ≤ i → byte_at c i ≡ byte_at d i
  byte_above i past = elim (cases_lt i (length d)) [
    | inl inside ↦ torn.others i inside (inr (omega (arith, low, past)))
    | inr outside ↦ get_or_past c i 0 (omega (arith, torn.end, torn.reach, low, past, outside)) ∙ sym (get_or_past d i 0 outside)
  ]

  pub reach_above : (j : ℕ) → nat_lt (k + j) (length c) ≡ nat_lt (k + j) (length d)
  reach_above j = elim (cases_lt (k + j) (length d)) [
    | inl inside ↦ lt-ltb (k + j) (length c) (omega (arith, torn.end, inside)) ∙ sym (lt-ltb (k + j) (length d) inside)
    | inr outside ↦ le-ltb (k + j) (length c) (omega (arith, torn.end, torn.reach, low, outside)) ∙ sym (le-ltb (k + j) (length d) outside)
  ]

  pub open_above : is_open c k ≡ is_open d k
  open_above =
      let byte = byte_above k (omega arith) in
      let reach = reach_above 1 in
      λ i. (byte i == 1) && reach i

  pub slot_above : slot_at c k ≡ slot_at d k
  slot_above = slot_same d c k open_above (λ is_open_here i past end. byte_above i (omega (arith, past)))

-- ---- a write in part above a whole slot

module _ (d c : List ℕ) (at n : ℕ) (saved : Saved) (torn : PartWritten at n d c) (high : SECOND_START ≤ at) (is : slot_at d 0 ≡ Some saved) (within : 13 + length saved.text ≤ length d) (short : length saved.text ≤ 8388608) where
  byte_low : (i : ℕ) → i < 13 + length saved.text → byte_at c i ≡ byte_at d i
  byte_low i inside = torn.others i (omega (arith, within, inside)) (inl (omega (arith, high, short, inside)))

  long : length_at d 0 ≡ length saved.text
  long = sym (length-bytes_at d 13 (length_at d 0)) ∙ ap (λ (s : Saved). length s.text) (opened d 0 saved is).1

  pub slot_low : slot_at c 0 ≡ slot_at d 0
  slot_low =
      let byte = byte_low 0 (omega arith) in
      let reach : nat_lt 1 (length c) ≡ nat_lt 1 (length d) = lt-ltb 1 (length c) (omega (arith, within, torn.end)) ∙ sym (lt-ltb 1 (length d) (omega (arith, within))) in
      slot_same d c 0 (λ i. (byte i == 1) && reach i) (λ is_open_here i past end. byte_low i (omega (arith, long, end)))
