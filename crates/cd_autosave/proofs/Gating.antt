-- What the three writes of a save leave at the slot that it takes.
use Rattle.std.proofs.Common.{◌≡◌, inl, inr, ⊎_elim, ◌⊎◌, ℕ, ◌+◌, ◌-◌, ◌<◌, ◌≤◌, ◌^◌, ◌==◌, nat_lt, true, List, [], ◌∷◌, ◌++◌, length, sym, ◌∙◌, ap, subst, arith, Some, None, length-append, if◌then◌else◌}
use Rattle.std.proofs.lemmas.Bool.{cases_lt, cases_eq, cases_Bool, and_from, and_left, and_right, lt-ltb, le-ltb, eq-eqb, ne_eqb, cond-true, cond-false}
use Rattle.std.proofs.lemmas.List.{get_or_past, get_or_append_left, get_or-append-add}
use Rattle.std.proofs.lemmas.Nat.{from_be_bytes-to_be_bytes_4, from_be_bytes-to_be_bytes_8}
use Rattle.std.specs.Int.{w32, w64, from_be_bytes, to_be_bytes}
use Rattle.cd_autosave.specs.Image.{byte_at, bytes_at, Saved, is_open, length_at, saved_at, slot_at, gate_at, rest_of, IsShut, IsFilled}
use Rattle.cd_autosave.specs.Disk.{PartWritten, Written}
use Rattle.cd_autosave.specs.declared.slot.Gate.TheVariants.{Missing, One, Other}
use Rattle.cd_autosave.proofs.Images.{bytes_are, saved_same, open_slot, shut_slot}

-- ---- what a gate says

pub gate_missing : (image : List ℕ) (start : ℕ) → length image ≤ start → gate_at image start ≡ Missing
gate_missing image start short = cond-false (nat_lt start (length image)) (if byte_at image start == 1 then One else Other) Missing (le-ltb start (length image) short)

gate_there : (image : List ℕ) (start : ℕ) → start < length image → gate_at image start ≡ (if byte_at image start == 1 then One else Other)
gate_there image start long = cond-true (nat_lt start (length image)) (if byte_at image start == 1 then One else Other) Missing (lt-ltb start (length image) long)

pub gate_one : (image : List ℕ) (start : ℕ) → start < length image → byte_at image start ≡ 1 → gate_at image start ≡ One
gate_one image start long one = gate_there image start long ∙ cond-true (byte_at image start == 1) One Other (eq-eqb (byte_at image start) 1 one)

pub gate_other : (image : List ℕ) (start : ℕ) → IsShut start image → gate_at image start ≡ Other
gate_other image start shut = gate_there image start shut.reaches ∙ cond-false (byte_at image start == 1) One Other (ne_eqb (byte_at image start) 1 shut.not_one)

-- which of the three it is
pub data At (image : List ℕ) (start : ℕ) : Type 0 where
  at_missing : length image ≤ start → At image start
  at_one : start < length image → byte_at image start ≡ 1 → At image start
  at_other : IsShut start image → At image start

pub which : (image : List ℕ) (start : ℕ) → At image start
which image start = elim (cases_lt start (length image)) [
  | inl long ↦ elim (cases_eq (byte_at image start) 1) [
    | inl one ↦ at_one long one
    | inr other ↦ at_other (record { reaches = long; not_one = other })
  ]
  | inr short ↦ at_missing short
]

missing≢other : Missing ≡ Other → ⊥
missing≢other is = cc is

one≢other : One ≡ Other → ⊥
one≢other is = cc is

pub is_shut : (image : List ℕ) (start : ℕ) → gate_at image start ≡ Other → IsShut start image
is_shut image start is = elim (which image start) [
  | at_missing short ↦ absurd (missing≢other (sym (gate_missing image start short) ∙ is))
  | at_one long one ↦ absurd (one≢other (sym (gate_one image start long one) ∙ is))
  | at_other shut ↦ shut
]

-- a gate that is not 1 opens nothing
pub shut_by_byte : (image : List ℕ) (start : ℕ) → (byte_at image start ≡ 1 → ⊥) → slot_at image start ≡ None
shut_by_byte image start other = shut_slot image start (and_left (byte_at image start == 1) (nat_lt (start + 1) (length image)) (ne_eqb (byte_at image start) 1 other))

-- nor does one that is the last byte, or past the end
pub shut_by_end : (image : List ℕ) (start : ℕ) → length image ≤ start + 1 → slot_at image start ≡ None
shut_by_end image start short = shut_slot image start (and_right (byte_at image start == 1) (nat_lt (start + 1) (length image)) (le-ltb (start + 1) (length image) short))

pub nothing_shut : (image : List ℕ) (start : ℕ) → IsShut start image → slot_at image start ≡ None
nothing_shut image start shut = shut_by_byte image start shut.not_one

-- ---- a write of the gate alone, in part

module _ (d c : List ℕ) (start : ℕ) (torn : PartWritten start 1 d c) (there : start < length d) where
  same_long : length c ≡ length d
  same_long = omega (arith, torn.end, torn.reach, there)

  byte_after : (i : ℕ) → start + 1 ≤ i → byte_at c i ≡ byte_at d i
  byte_after i past = elim (cases_lt i (length d)) [
    | inl inside ↦ torn.others i inside (inr (omega (arith, past)))
    | inr outside ↦ get_or_past c i 0 (omega (arith, same_long, outside)) ∙ sym (get_or_past d i 0 outside)
  ]

  pub saved_behind : saved_at c start ≡ saved_at d start
  saved_behind = saved_same d c start (λ i past end. byte_after i past)

  -- whatever the gate is then, the slot holds what recovered there or nothing
  pub gate_torn : (slot_at c start ≡ None) ⊎ (slot_at c start ≡ Some (saved_at d start))
  gate_torn = elim (cases_Bool (is_open c start)) [
    | inl is_open_here ↦ inr (open_slot c start is_open_here ∙ ap Some saved_behind)
    | inr is_shut_here ↦ inl (shut_slot c start is_shut_here)
  ]

-- ---- closing

-- a write of the gate where it is 1 or past the end leaves what the slot held, or nothing
pub closing : (d c : List ℕ) (start : ℕ) → (gate_at d start ≡ Other → ⊥) → PartWritten start 1 d c → (slot_at c start ≡ None) ⊎ (slot_at c start ≡ slot_at d start)
closing d c start not_other torn = elim (which d start) [
  | at_missing short ↦ inl (shut_by_end c start (omega (arith, torn.end, torn.reach, short)))
  | at_one there one ↦ elim (cases_lt (start + 1) (length d)) [
    | inl more ↦
        let yes : is_open d start ≡ true = and_from (byte_at d start == 1) (nat_lt (start + 1) (length d)) (eq-eqb (byte_at d start) 1 one) (lt-ltb (start + 1) (length d) more) in
        ⊎_elim inl (λ same. inr (same ∙ sym (open_slot d start yes))) (gate_torn d c start torn there)
    | inr last ↦ inl (shut_by_end c start (omega (arith, same_long d c start torn there, last)))
  ]
  | at_other shut ↦ absurd (not_other (gate_other d start shut))
]

pub closed : (d new : List ℕ) (start : ℕ) → Written start (0 ∷ []) d new → IsShut start new
closed d new start written =
    let here : start + 0 ≡ start = omega arith in
    let byte : byte_at new start ≡ 0 = ap (λ (n : ℕ). byte_at new n) (sym here) ∙ written.piece_is 0 (omega arith) in
    record { reaches = omega (arith, written.long); not_one = λ one. absurd (omega (arith, byte, one)) }

-- ---- the rest

-- a closed gate stays closed in each outcome of a write after it
pub stays_shut : (d c : List ℕ) (start n : ℕ) → IsShut start d → PartWritten (start + 1) n d c → IsShut start c
stays_shut d c start n shut torn =
    let same : byte_at c start ≡ byte_at d start = torn.others start shut.reaches (inl (omega arith)) in
    record { reaches = omega (arith, shut.reaches, torn.end); not_one = λ one. shut.not_one (sym same ∙ one) }

pub length-rest_of : (saved : Saved) → length (rest_of saved) ≡ 12 + length saved.text
length-rest_of saved =
    let ns : List ℕ = to_be_bytes w64 saved.number in
    let ls : List ℕ = to_be_bytes w32 (length saved.text) in
    omega (arith, length-append (ns ++ ls) saved.text, length-append ns ls)

piece_left : (image xs ys : List ℕ) (at : ℕ) → ((i : ℕ) → i < length (xs ++ ys) → byte_at image (at + i) ≡ byte_at (xs ++ ys) i) → (i : ℕ) → i < length xs → byte_at image (at + i) ≡ byte_at xs i
piece_left image xs ys at are i low = are i (omega (arith, length-append xs ys, low)) ∙ get_or_append_left xs ys 0 i low

piece_right : (image xs ys : List ℕ) (at : ℕ) → ((i : ℕ) → i < length (xs ++ ys) → byte_at image (at + i) ≡ byte_at (xs ++ ys) i) → (i : ℕ) → i < length ys → byte_at image (at + length xs + i) ≡ byte_at ys i
piece_right image xs ys at are i low =
    let place : at + length xs + i ≡ at + (length xs + i) = omega arith in
    ap (λ (n : ℕ). byte_at image n) place ∙ are (length xs + i) (omega (arith, length-append xs ys, low)) ∙ get_or-append-add xs ys i 0

pub filled : (d new : List ℕ) (start : ℕ) (saved : Saved) → saved.number < 2 ^ 64 → length saved.text < 2 ^ 32 → Written (start + 1) (rest_of saved) d new → IsFilled start saved new
filled d new start saved number_fits text_fits written =
    let ns : List ℕ = to_be_bytes w64 saved.number in
    let ls : List ℕ = to_be_bytes w32 (length saved.text) in
    let long = length-rest_of saved in
    let front = piece_left new (ns ++ ls) saved.text (start + 1) written.piece_is in
    let number : from_be_bytes w64 (bytes_at new (start + 1) 8) ≡ saved.number =
    ap (λ (bs : List ℕ). from_be_bytes w64 bs) (bytes_are new ns (start + 1) (piece_left new ns ls (start + 1) front)) ∙ from_be_bytes-to_be_bytes_8 saved.number number_fits in
    let nine : start + 1 + 8 ≡ start + 9 = omega arith in
    let length_bytes : bytes_at new (start + 9) 4 ≡ ls = subst (λ (n : ℕ). bytes_at new n 4 ≡ ls) nine (bytes_are new ls (start + 1 + 8) (piece_right new ns ls (start + 1) front)) in
    let text_long : length_at new start ≡ length saved.text = ap (λ (bs : List ℕ). from_be_bytes w32 bs) length_bytes ∙ from_be_bytes-to_be_bytes_4 (length saved.text) text_fits in
    let thirteen : start + 1 + 12 ≡ start + 13 = omega arith in
    let text_bytes : bytes_at new (start + 13) (length saved.text) ≡ saved.text =
    subst (λ (n : ℕ). bytes_at new n (length saved.text) ≡ saved.text) thirteen (bytes_are new saved.text (start + 1 + 12) (piece_right new (ns ++ ls) saved.text (start + 1) written.piece_is)) in
    let text : bytes_at new (start + 13) (length_at new start) ≡ saved.text = ap (λ (n : ℕ). bytes_at new (start + 13) n) text_long ∙ text_bytes in
    record { within = omega (arith, written.long, long); is = λ i. record { number = number i; text = text i } }

pub filled_shut : (d new : List ℕ) (start : ℕ) (piece : List ℕ) → IsShut start d → Written (start + 1) piece d new → IsShut start new
filled_shut d new start piece shut written =
    let same : byte_at new start ≡ byte_at d start = written.others start (inl (omega arith)) in
    record { reaches = omega (arith, shut.reaches, written.long); not_one = λ one. shut.not_one (sym same ∙ one) }

-- ---- opening

-- the gate of a whole slot opens it or does not
pub opening : (d c : List ℕ) (start : ℕ) (saved : Saved) → IsFilled start saved d → PartWritten start 1 d c → (slot_at c start ≡ None) ⊎ (slot_at c start ≡ Some saved)
opening d c start saved filled torn =
    ⊎_elim inl (λ is. inr (is ∙ ap Some filled.is)) (gate_torn d c start torn (omega (arith, filled.within)))

pub opened_slot : (d new : List ℕ) (start : ℕ) (saved : Saved) → IsFilled start saved d → Written start (1 ∷ []) d new → slot_at new start ≡ Some saved
opened_slot d new start saved filled written =
    let here : start + 0 ≡ start = omega arith in
    let one : byte_at new start ≡ 1 = ap (λ (n : ℕ). byte_at new n) (sym here) ∙ written.piece_is 0 (omega arith) in
    let yes : is_open new start ≡ true = and_from (byte_at new start == 1) (nat_lt (start + 1) (length new)) (eq-eqb (byte_at new start) 1 one) (lt-ltb (start + 1) (length new) (omega (arith, written.long, filled.within))) in
    open_slot new start yes ∙ ap Some (saved_same d new start (λ i past end. written.others i (inr (omega (arith, past)))) ∙ filled.is)

-- what is written whole is written in part
pub written_torn : (at : ℕ) (piece old new : List ℕ) → Written at piece old new → PartWritten at (length piece) old new
written_torn at piece old new written = record {
  growth = length new - length old;
  end = omega (arith, written.long);
  reach = omega (arith, written.long);
  others = λ i inside out. written.others i out;
}
