-- What each part of a save keeps, and what a crash in it may leave.
use Rattle.std.proofs.Common.{◌≡◌, inl, inr, ⊎_elim, ◌⊎◌, ℕ, suc, ◌+◌, ◌<◌, ◌≤◌, ◌^◌, true, List, [], ◌∷◌, length, refl, sym, ◌∙◌, ap, subst, arith, Option, Some, None, IfSome, option_map}
use Rattle.cd_autosave.specs.Places.{start_of}
use Rattle.cd_autosave.specs.Image.{Saved, slot_at, gate_at, newer, recovered, rank, rest_of, IsFilled}
use Rattle.cd_autosave.specs.Disk.{PartWritten, Written, Steps, MadeOf, IsPresent, Throughout}
use Rattle.cd_autosave.specs.Saving.{IsKnownAt, MidSave, IsKept, held_of}
use Rattle.cd_autosave.specs.declared.slot.Slot.{Slot}
use Rattle.cd_autosave.specs.declared.slot.Gate.TheVariants.{Other}
use Rattle.cd_autosave.specs.declared.slots.Slots.{Slots}
use Rattle.cd_autosave.proofs.Clock.{followed, loosened, stood_still, at_the_end}
use Rattle.cd_autosave.proofs.Recovered.{InRoom, keeps_torn, stands_above, newest_held}
use Rattle.cd_autosave.proofs.Gating.{gate_other, is_shut, closed, filled, filled_shut}
use Rattle.cd_autosave.proofs.Keeping.{held_none, stepped_from, stood, closing_stands, filling_stands, opening_stands}
use Rattle.cd_outside.specs.declared.limits.TheConstants.{MAX_KEPT_BYTES}

-- the gate alone is in the room of its slot, and so is the rest
pub gate_in : (slot : Slot) (at : ℕ) → at ≡ start_of slot → InRoom slot at 1
gate_in slot at is = record { low = omega (arith, is); high = omega (arith, is) }

pub rest_in : (slot : Slot) (at n : ℕ) → at ≡ start_of slot + 1 → n ≤ 12 + MAX_KEPT_BYTES → InRoom slot at n
rest_in slot at n is few = record { low = omega (arith, is); high = omega (arith, is, few) }

-- ---- ranks

number_of : Saved → ℕ
number_of saved = saved.number

no_number : {n : ℕ} → None ≡ Some n → ⊥
no_number is = cc is

same_number : {m n : ℕ} → Some m ≡ Some n → m ≡ n
same_number is = cc is

pub rank_is : (held : Option Saved) (n : ℕ) → option_map (λ saved. saved.number) held ≡ Some n → rank held ≡ suc n
rank_is None n is = absurd (no_number is)
rank_is (Some saved) n is = ap suc (same_number is)

pub rank_below : (held : Option Saved) (told : Option ℕ) (number : ℕ) → option_map (λ saved. saved.number) held ≡ told → IfSome told (λ n. n < number) → rank held < suc number
rank_below None told number is low = omega arith
rank_below (Some saved) told number is low =
    let below : saved.number < number = subst (λ (o : Option ℕ). IfSome o (λ n. n < number)) (sym is) low in
    omega (arith, below)

pub not_held : (told : Option ℕ) (number held : ℕ) → IfSome told (λ n. n < number) → told ≡ Some held → number ≤ held → ⊥
not_held told number held low is high =
    let below : held < number = subst (λ (o : Option ℕ). IfSome o (λ n. n < number)) is low in
    absurd (omega (arith, below, high))

module _ {D : Type 0} (seen : D → Option (List ℕ)) (left_now : D → List ℕ → Type 0) (clock : D → ℕ) (left_at : D → ℕ → List ℕ → Type 0)
    (told : (disk : D) (c : List ℕ) → left_now disk c → (image : List ℕ) × (seen disk ≡ Some image)) where
  -- where a record is held, each image recovered for its number at least
  pub rank_kept : (slots : Slots D) (number held : ℕ) → IsKept seen left_now slots → slots.held ≡ Some held → number ≤ held → (c : List ℕ) → left_now slots.disk c → number < rank (recovered c)
  rank_kept slots number held kept is low c left =
      let now = told slots.disk c left in
      let rank_held = rank_is (held_of seen slots) held ((kept.notes now.0 now.1).number ∙ is) in
      omega (arith, low, rank_held, stands_above slots.next (held_of seen slots) c (kept.images c left).same)

  -- the record that is held is older than a save whose number is above it
  held_below_at : (slots : Slots D) (number : ℕ) → IsKept seen left_now slots → IfSome slots.held (λ held. held < number) → (o : Option (List ℕ)) → seen slots.disk ≡ o → rank (held_of seen slots) < suc number
  held_below_at slots number kept low None is = let none = ap rank (held_none seen left_now slots is) in omega (arith, none)
  held_below_at slots number kept low (Some image) is = rank_below (held_of seen slots) slots.held number (kept.notes image is).number low

  pub held_below : (slots : Slots D) (number : ℕ) → IsKept seen left_now slots → IfSome slots.held (λ held. held < number) → rank (held_of seen slots) < suc number
  held_below slots number kept low = held_below_at slots number kept low (seen slots.disk) refl

  -- one whose number is not above it is no newer
  pub held_newest : (slots : Slots D) (saved : Saved) (held : ℕ) → IsKept seen left_now slots → slots.held ≡ Some held → saved.number ≤ held → (image : List ℕ) → seen slots.disk ≡ Some image
      → held_of seen slots ≡ newer (held_of seen slots) (Some saved)
  held_newest slots saved held kept is low image now =
      newest_held (held_of seen slots) saved (let above = rank_is (held_of seen slots) held ((kept.notes image now).number ∙ is) in omega (arith, above, low))

  -- nothing was done
  pub still : (slots : Slots D) (saved : Saved) → IsKept seen left_now slots → (c : List ℕ) → left_now slots.disk c → MidSave (left_now slots.disk) (held_of seen slots) saved c
  still slots saved kept c left = stood slots.next (held_of seen slots) saved (left_now slots.disk) c c (kept.images c left) left (kept.images c left) refl

  pub begun_still : (present : (disk : D) → IsPresent left_now clock left_at disk) (slots : Slots D) (saved : Saved) → IsKept seen left_now slots
      → Throughout clock left_at slots.disk slots.disk (MidSave (left_now slots.disk) (held_of seen slots) saved)
  begun_still present slots saved kept = stood_still clock left_at slots.disk _ (λ c left. still slots saved kept c ((present slots.disk c).0 left))

  pub looked_still : (slots : Slots D) (disk : D) (saved : Saved) → IsKept seen left_now slots → Throughout clock left_at slots.disk disk (left_now slots.disk)
      → Throughout clock left_at slots.disk disk (MidSave (left_now slots.disk) (held_of seen slots) saved)
  looked_still slots disk saved kept run = loosened clock left_at slots.disk disk _ _ run (still slots saved kept)

  -- ---- the writes

  module _ (old : Slots D) (disk : D) (at : ℕ) (kept : IsKept seen left_now old) (settled : old.settled ≡ true) where
    -- each image is what reads give, so its gate is the one that is known
    gate_known : (d : List ℕ) → left_now old.disk d → gate_at d (start_of old.next) ≡ old.gate
    gate_known d left = (kept.notes d (kept.settled settled d left)).gate settled

    pub close_moments : at ≡ start_of old.next → (old.gate ≡ Other → ⊥) → Throughout clock left_at old.disk disk (MadeOf (PartWritten at 1) (left_now old.disk))
        → (saved : Saved) → Throughout clock left_at old.disk disk (MidSave (left_now old.disk) (held_of seen old) saved)
    close_moments is not_other run saved = loosened clock left_at old.disk disk _ _ run (λ c from.
        let keeps = kept.images from.source from.is_one in
        closing_stands old.next (held_of seen old) saved (left_now old.disk) from.source c keeps from.is_one
        (λ other_gate. not_other (sym (gate_known from.source from.is_one) ∙ other_gate))
        (keeps_torn old.next (held_of seen old) from.source c at 1 (gate_in old.next at is) keeps from.made)
        (subst (λ (n : ℕ). PartWritten n 1 from.source c) is from.made))

    pub close_shut : at ≡ start_of old.next → Steps (Written at (0 ∷ [])) (seen old.disk) (seen disk) → (image : List ℕ) → seen disk ≡ Some image → gate_at image (start_of old.next) ≡ Other
    close_shut is steps image now =
        let from = stepped_from (Written at (0 ∷ [])) (seen old.disk) (seen disk) image steps now in
        gate_other image (start_of old.next) (closed from.0 image (start_of old.next) (subst (λ (n : ℕ). Written n (0 ∷ []) from.0 image) is from.2))

    pub fill_moments : (n : ℕ) (saved : Saved) → at ≡ start_of old.next + 1 → n ≤ 12 + MAX_KEPT_BYTES → old.gate ≡ Other → Throughout clock left_at old.disk disk (MadeOf (PartWritten at n) (left_now old.disk))
        → Throughout clock left_at old.disk disk (MidSave (left_now old.disk) (held_of seen old) saved)
    fill_moments n saved is few gate run = loosened clock left_at old.disk disk _ _ run (λ c from.
        let keeps = kept.images from.source from.is_one in
        filling_stands old.next (held_of seen old) saved (left_now old.disk) from.source c n keeps from.is_one (gate_known from.source from.is_one ∙ gate)
        (keeps_torn old.next (held_of seen old) from.source c at n (rest_in old.next at n is few) keeps from.made)
        (subst (λ (m : ℕ). PartWritten m n from.source c) is from.made))

    pub fill_gate : (piece : List ℕ) → at ≡ start_of old.next + 1 → old.gate ≡ Other → Steps (Written at piece) (seen old.disk) (seen disk) → (image : List ℕ) → seen disk ≡ Some image → gate_at image (start_of old.next) ≡ old.gate
    fill_gate piece is gate steps image now =
        let from = stepped_from (Written at piece) (seen old.disk) (seen disk) image steps now in
        let shut = is_shut from.0 (start_of old.next) ((kept.notes from.0 from.1).gate settled ∙ gate) in
        gate_other image (start_of old.next) (filled_shut from.0 image (start_of old.next) piece shut (subst (λ (m : ℕ). Written m piece from.0 image) is from.2)) ∙ sym gate

    pub fill_whole : (piece : List ℕ) (saved : Saved) → at ≡ start_of old.next + 1 → piece ≡ rest_of saved → saved.number < 2 ^ 64 → length saved.text ≤ MAX_KEPT_BYTES → Steps (Written at piece) (seen old.disk) (seen disk)
        → (image : List ℕ) → seen disk ≡ Some image → IsFilled (start_of old.next) saved image
    fill_whole piece saved is rest fits short steps image now =
        let from = stepped_from (Written at piece) (seen old.disk) (seen disk) image steps now in
        filled from.0 image (start_of old.next) saved fits (omega (arith, short))
        (subst (λ (p : List ℕ). Written (start_of old.next + 1) p from.0 image) rest (subst (λ (m : ℕ). Written m piece from.0 image) is from.2))

    pub open_moments : (saved : Saved) → at ≡ start_of old.next → ((image : List ℕ) → seen old.disk ≡ Some image → IsFilled (start_of old.next) saved image) → IfSome old.held (λ held. held < saved.number)
        → Throughout clock left_at old.disk disk (MadeOf (PartWritten at 1) (left_now old.disk)) → Throughout clock left_at old.disk disk (MidSave (left_now old.disk) (held_of seen old) saved)
    open_moments saved is whole newer run = loosened clock left_at old.disk disk _ _ run (λ c from.
        let keeps = kept.images from.source from.is_one in
        let now = kept.settled settled from.source from.is_one in
        opening_stands old.next (held_of seen old) saved (left_now old.disk) from.source c keeps from.is_one
        (rank_below (held_of seen old) old.held saved.number (kept.notes from.source now).number newer)
        (whole from.source now)
        (keeps_torn old.next (held_of seen old) from.source c at 1 (gate_in old.next at is) keeps from.made)
        (subst (λ (n : ℕ). PartWritten n 1 from.source c) is from.made))

  -- ---- one part after another

  carried : (before : List ℕ → Type 0) (held : Option Saved) (saved : Saved) (c d : List ℕ) → recovered c ≡ recovered d → MidSave before held saved d
      → ((e : List ℕ) × before e × (recovered c ≡ recovered e)) ⊎ ((recovered c ≡ held) ⊎ (recovered c ≡ Some saved))
  carried before held saved c d same may = ⊎_elim
      (λ from. inl (from.0, from.1, same ∙ from.2))
      (λ rest. inr (⊎_elim (λ is. inl (same ∙ is)) (λ is. inr (same ∙ is)) rest))
      may.known

  carried_at : (before : List ℕ → Type 0) (saved : Saved) (slot : Slot) (c d : List ℕ) → slot_at c (start_of slot) ≡ slot_at d (start_of slot) → IsKnownAt before saved d slot → IsKnownAt before saved c slot
  carried_at before saved slot c d same known = ⊎_elim
      (λ none. inl (same ∙ none))
      (λ rest. inr (⊎_elim (λ is. inl (same ∙ is)) (λ from. inr (from.0, from.1, same ∙ from.2)) rest))
      known

  pub then_stands : (present : (disk : D) → IsPresent left_now clock left_at disk) (old mid : Slots D) (new : D) (saved : Saved) → held_of seen mid ≡ held_of seen old
      → Throughout clock left_at old.disk mid.disk (MidSave (left_now old.disk) (held_of seen old) saved)
      → Throughout clock left_at mid.disk new (MidSave (left_now mid.disk) (held_of seen mid) saved)
      → Throughout clock left_at old.disk new (MidSave (left_now old.disk) (held_of seen old) saved)
  then_stands present old mid new saved held first second = loosened clock left_at old.disk new _ _ (followed clock left_at old.disk mid.disk new _ _ first second) (λ c. ⊎_elim (λ may. may) (λ may. record {
    known = ⊎_elim
        (λ from. carried (left_now old.disk) (held_of seen old) saved c from.0 from.2 (at_the_end clock left_at left_now present old.disk mid.disk _ first from.0 from.1))
        (λ rest. inr (⊎_elim (λ is. inl (is ∙ held)) (λ is. inr is) rest))
        may.known;
    not_below = subst (λ (h : Option Saved). rank h ≤ rank (recovered c)) held may.not_below;
    each_slot = λ slot. ⊎_elim
        (λ none. inl none)
        (λ rest. ⊎_elim
        (λ is. inr (inl is))
        (λ from. carried_at (left_now old.disk) saved slot c from.0 from.2 ((at_the_end clock left_at left_now present old.disk mid.disk _ first from.0 from.1).each_slot slot))
        rest)
        (may.each_slot slot);
  }))
