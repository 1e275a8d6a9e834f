-- What is recovered from images.
use Rattle.std.proofs.Common.{◌≡◌, inl, inr, ℕ, ◌+◌, ◌<◌, ◌≤◌, nat_lt, List, length, refl, sym, ◌∙◌, ap, subst, arith, Option, Some, None, if◌then◌else◌, ◌==◌}
use Rattle.std.proofs.lemmas.Bool.{cases_lt, lt-ltb, le-ltb, cond-true, cond-false}
use Rattle.cd_autosave.specs.Places.{start_of, other}
use Rattle.cd_autosave.specs.Image.{byte_at, Saved, slot_at, gate_at, newer, recovered, rank}
use Rattle.cd_autosave.specs.Disk.{PartWritten}
use Rattle.cd_autosave.specs.Saving.{Keeps}
use Rattle.cd_autosave.specs.declared.slot.Slot.{Slot}
use Rattle.cd_autosave.specs.declared.slot.Slot.TheVariants.{First, Second}
use Rattle.cd_autosave.specs.declared.slot.Gate.TheVariants.{Missing, One, Other}
use Rattle.cd_autosave.proofs.Images.{byte_above, reach_above, slot_above, slot_low}
use Rattle.cd_outside.specs.declared.limits.TheConstants.{MAX_KEPT_BYTES}
use Rattle.cd_autosave.specs.declared.limits.TheConstants.{SECOND_START}

-- ---- the newer of two

pub newer_none : (a : Option Saved) → newer a None ≡ a
newer_none None = refl
newer_none (Some a) = refl

pub newer_below : (a b : Saved) → a.number < b.number → newer (Some a) (Some b) ≡ Some b
newer_below a b low = cond-true (nat_lt a.number b.number) (Some b) (Some a) (lt-ltb a.number b.number low)

pub newer_above : (a b : Saved) → b.number ≤ a.number → newer (Some a) (Some b) ≡ Some a
newer_above a b high = cond-false (nat_lt a.number b.number) (Some b) (Some a) (le-ltb a.number b.number high)

pub rank_left : (a b : Option Saved) → rank a ≤ rank (newer a b)
rank_left None b = omega arith
rank_left (Some a) None = omega arith
rank_left (Some a) (Some b) = elim (cases_lt a.number b.number) [
  | inl low ↦ omega (arith, low, ap rank (newer_below a b low))
  | inr high ↦ omega (arith, ap rank (newer_above a b high))
]

pub rank_right : (a b : Option Saved) → rank b ≤ rank (newer a b)
rank_right None b = omega arith
rank_right (Some a) None = omega arith
rank_right (Some a) (Some b) = elim (cases_lt a.number b.number) [
  | inl low ↦ omega (arith, low, ap rank (newer_below a b low))
  | inr high ↦ omega (arith, high, ap rank (newer_above a b high))
]

pub after_newer : (held : Option Saved) (saved : Saved) → rank held < rank (Some saved) → newer held (Some saved) ≡ Some saved
after_newer None saved low = refl
after_newer (Some a) saved low = newer_below a saved (omega (arith, low))

-- the record that is held stays the newer one
pub newest_held : (held : Option Saved) (saved : Saved) → saved.number < rank held → held ≡ newer held (Some saved)
newest_held None saved low = absurd (omega (arith, low))
newest_held (Some a) saved low = sym (newer_above a saved (omega (arith, low)))

before_newer : (held : Option Saved) (saved : Saved) → rank held < rank (Some saved) → newer (Some saved) held ≡ Some saved
before_newer None saved low = refl
before_newer (Some b) saved low = newer_above saved b (omega (arith, low))

-- ---- the kept slot and the next

pub stands_same : (c d : List ℕ) → slot_at c 0 ≡ slot_at d 0 → slot_at c SECOND_START ≡ slot_at d SECOND_START → recovered c ≡ recovered d
stands_same c d one two = λ i. newer (one i) (two i)

-- the kept slot alone
pub stands_kept : (next : Slot) (held : Option Saved) (c : List ℕ) → slot_at c (start_of (other next)) ≡ held → slot_at c (start_of next) ≡ None → recovered c ≡ held
stands_kept First held c kept none = λ i. newer (none i) (kept i)
stands_kept Second held c kept none = (λ i. newer (kept i) (none i)) ∙ newer_none held

-- the next slot, where it has the greater number
pub stands_new : (next : Slot) (held : Option Saved) (saved : Saved) (c : List ℕ) → slot_at c (start_of (other next)) ≡ held → slot_at c (start_of next) ≡ Some saved → rank held < rank (Some saved) → recovered c ≡ Some saved
stands_new First held saved c kept new low = (λ i. newer (new i) (kept i)) ∙ before_newer held saved low
stands_new Second held saved c kept new low = (λ i. newer (kept i) (new i)) ∙ after_newer held saved low

-- both as in another image
pub stands_both : (next : Slot) (c d : List ℕ) → slot_at c (start_of (other next)) ≡ slot_at d (start_of (other next)) → slot_at c (start_of next) ≡ slot_at d (start_of next) → recovered c ≡ recovered d
stands_both First c d kept new = stands_same c d new kept
stands_both Second c d kept new = stands_same c d kept new

pub stands_above : (next : Slot) (held : Option Saved) (c : List ℕ) → slot_at c (start_of (other next)) ≡ held → rank held ≤ rank (recovered c)
stands_above First held c kept = subst (λ (h : Option Saved). rank h ≤ rank (recovered c)) kept (rank_right (slot_at c 0) (slot_at c SECOND_START))
stands_above Second held c kept = subst (λ (h : Option Saved). rank h ≤ rank (recovered c)) kept (rank_left (slot_at c 0) (slot_at c SECOND_START))

-- ---- a write in part in the next slot's room

-- the write begins in the slot's room and ends in it
pub record InRoom (slot : Slot) (at n : ℕ) : Type 0 where
  pub low : start_of slot ≤ at
  pub high : at + n ≤ start_of slot + 13 + MAX_KEPT_BYTES

pub keeps_torn : (next : Slot) (held : Option Saved) (d c : List ℕ) (at n : ℕ) → InRoom next at n → Keeps (other next) held d → PartWritten at n d c → Keeps (other next) held c
keeps_torn Second None d c at n room keeps torn = absurd (omega (arith, keeps.some refl))
keeps_torn Second (Some saved) d c at n room keeps torn = record {
  same = slot_low d c at n saved torn room.low keeps.same keeps.whole.within keeps.whole.short ∙ keeps.same;
  whole = record { within = omega (arith, keeps.whole.within, torn.end); short = keeps.whole.short };
  some = keeps.some;
}
keeps_torn First None d c at n room keeps torn = record {
  same = slot_above d c at n SECOND_START torn (omega (arith, room.high)) ∙ keeps.same;
  whole = tt;
  some = keeps.some;
}
keeps_torn First (Some saved) d c at n room keeps torn = record {
  same = slot_above d c at n SECOND_START torn (omega (arith, room.high)) ∙ keeps.same;
  whole = record { within = omega (arith, keeps.whole.within, torn.end); short = keeps.whole.short };
  some = keeps.some;
}

-- the kept gate stays as it is
pub gate_kept : (next : Slot) (held : Option Saved) (d c : List ℕ) (at n : ℕ) → InRoom next at n → Keeps (other next) held d → PartWritten at n d c → gate_at c (start_of (other next)) ≡ gate_at d (start_of (other next))
gate_kept Second None d c at n room keeps torn = absurd (omega (arith, keeps.some refl))
gate_kept Second (Some saved) d c at n room keeps torn =
    let byte : byte_at c 0 ≡ byte_at d 0 = torn.others 0 (omega (arith, keeps.whole.within)) (inl (omega (arith, room.low))) in
    let reach : nat_lt 0 (length c) ≡ nat_lt 0 (length d) = lt-ltb 0 (length c) (omega (arith, keeps.whole.within, torn.end)) ∙ sym (lt-ltb 0 (length d) (omega (arith, keeps.whole.within))) in
    λ i. if reach i then (if byte i == 1 then One else Other) else Missing
gate_kept First held d c at n room keeps torn =
    let byte = byte_above d c at n SECOND_START torn (omega (arith, room.high)) SECOND_START (omega arith) in
    let reach : nat_lt SECOND_START (length c) ≡ nat_lt SECOND_START (length d) = reach_above d c at n SECOND_START torn (omega (arith, room.high)) 0 in
    λ i. if reach i then (if byte i == 1 then One else Other) else Missing
