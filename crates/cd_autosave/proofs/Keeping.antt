-- What a saver keeps through a write in the room of the next slot.
use Rattle.std.proofs.Common.{◌≡◌, inl, inr, ⊎_elim, ℕ, ◌+◌, ◌<◌, Bool, true, List, refl, sym, ◌∙◌, ap, subst, arith, Option, Some, None, option_map, option_and_then}
use Rattle.cd_autosave.specs.Places.{start_of, other}
use Rattle.cd_autosave.specs.Image.{Saved, slot_at, gate_at, rank, IsFilled}
use Rattle.cd_autosave.specs.Disk.{PartWritten, Steps, MadeOf, IsAmong, IsDurable}
use Rattle.cd_autosave.specs.Saving.{Keeps, IsKnownAt, MidSave, Notes, IsKept, Stays, StaysTold, held_of}
use Rattle.cd_autosave.specs.declared.slot.Slot.{Slot}
use Rattle.cd_autosave.specs.declared.slot.Slot.TheVariants.{First, Second}
use Rattle.cd_autosave.specs.declared.slot.Gate.{Gate}
use Rattle.cd_autosave.specs.declared.slot.Gate.TheVariants.{Other}
use Rattle.cd_autosave.specs.declared.slots.Slots.{Slots}
use Rattle.cd_autosave.proofs.Recovered.{InRoom, keeps_torn, gate_kept, stands_kept, stands_new, stands_both, stands_above}
use Rattle.cd_autosave.proofs.Gating.{closing, opening, is_shut, nothing_shut, stays_shut}

pub torn_refl : (at n : ℕ) (image : List ℕ) → PartWritten at n image image
torn_refl at n image = record { growth = 0; end = omega arith; reach = omega arith; others = λ i inside out. refl }

pub untouched : (at n : ℕ) (images : List ℕ → Type 0) (image : List ℕ) → images image → MadeOf (PartWritten at n) images image
untouched at n images image one = record { source = image; is_one = one; made = torn_refl at n image }

pub steps_refl : (at n : ℕ) (before now : Option (List ℕ)) → now ≡ before → Steps (PartWritten at n) before now
steps_refl at n None now is = is
steps_refl at n (Some image) now is = (image, is, torn_refl at n image)

pub some_is : {x y : List ℕ} → Some x ≡ Some y → x ≡ y
some_is same = cc same

none≢some : {x : List ℕ} → None ≡ Some x → ⊥
none≢some same = cc same

-- where a step led to told bytes, these were told before
pub stepped_from : (step : List ℕ → List ℕ → Type 0) (before now : Option (List ℕ)) (new : List ℕ) → Steps step before now → now ≡ Some new → (old : List ℕ) × (before ≡ Some old) × step old new
stepped_from step None now new steps is = absurd (none≢some (sym steps ∙ is))
stepped_from step (Some old) now new steps is = (old, refl, subst (step old) (some_is (sym steps.1 ∙ is)) steps.2)

-- where a step leads on the bytes stay told
pub steps_told : (step : List ℕ → List ℕ → Type 0) (before now : Option (List ℕ)) → Steps step before now → StaysTold before now
steps_told step None now steps = λ image is. absurd (none≢some is)
steps_told step (Some old) now steps = λ image is. (steps.0, steps.1)

pub same_told : (before now : Option (List ℕ)) → now ≡ before → StaysTold before now
same_told before now same = λ image is. (image, same ∙ is)

pub then_told : {before mid now : Option (List ℕ)} → StaysTold before mid → StaysTold mid now → StaysTold before now
then_told first second image is = let there = first image is in second there.0 there.1

-- ---- what the slots hold

-- the kept slot holds what it did in an image before
kept_known : (next : Slot) (held : Option Saved) (saved : Saved) (before : List ℕ → Type 0) (d c : List ℕ) → Keeps (other next) held d → before d → Keeps (other next) held c → IsKnownAt before saved c (other next)
kept_known next held saved before d c keeps was now = inr (inr (d, was, now.same ∙ sym keeps.same))

each_known : (next slot : Slot) (saved : Saved) (before : List ℕ → Type 0) (c : List ℕ) → IsKnownAt before saved c (other next) → IsKnownAt before saved c next → IsKnownAt before saved c slot
each_known First First saved before c kept new = new
each_known First Second saved before c kept new = kept
each_known Second First saved before c kept new = kept
each_known Second Second saved before c kept new = new

-- the next slot holds what it did in an image before
pub stood : (next : Slot) (held : Option Saved) (saved : Saved) (before : List ℕ → Type 0) (d c : List ℕ) → Keeps (other next) held d → before d → Keeps (other next) held c → slot_at c (start_of next) ≡ slot_at d (start_of next) → MidSave before held saved c
stood next held saved before d c keeps was now same = record {
  known = inl (d, was, stands_both next c d (now.same ∙ sym keeps.same) same);
  not_below = stands_above next held c now.same;
  each_slot = λ slot. each_known next slot saved before c (kept_known next held saved before d c keeps was now) (inr (inr (d, was, same)));
}

-- the next slot holds nothing
stood_held : (next : Slot) (held : Option Saved) (saved : Saved) (before : List ℕ → Type 0) (d c : List ℕ) → Keeps (other next) held d → before d → Keeps (other next) held c → slot_at c (start_of next) ≡ None → MidSave before held saved c
stood_held next held saved before d c keeps was now none = record {
  known = inr (inl (stands_kept next held c now.same none));
  not_below = stands_above next held c now.same;
  each_slot = λ slot. each_known next slot saved before c (kept_known next held saved before d c keeps was now) (inl none);
}

-- the next slot holds the record of the save, which is the newer one
stood_new : (next : Slot) (held : Option Saved) (saved : Saved) (before : List ℕ → Type 0) (d c : List ℕ) → rank held < rank (Some saved) → Keeps (other next) held d → before d → Keeps (other next) held c → slot_at c (start_of next) ≡ Some saved
    → MidSave before held saved c
stood_new next held saved before d c low keeps was now is = record {
  known = inr (inr (stands_new next held saved c now.same is low));
  not_below = stands_above next held c now.same;
  each_slot = λ slot. each_known next slot saved before c (kept_known next held saved before d c keeps was now) (inr (inl is));
}

-- the gate is written where it is not closed
pub closing_stands : (next : Slot) (held : Option Saved) (saved : Saved) (before : List ℕ → Type 0) (d c : List ℕ) → Keeps (other next) held d → before d → (gate_at d (start_of next) ≡ Other → ⊥) → Keeps (other next) held c → PartWritten (start_of next) 1 d c
    → MidSave before held saved c
closing_stands next held saved before d c keeps was gate now torn = ⊎_elim
    (λ none. stood_held next held saved before d c keeps was now none)
    (λ same. stood next held saved before d c keeps was now same)
    (closing d c (start_of next) gate torn)

-- the rest is written after a closed gate
pub filling_stands : (next : Slot) (held : Option Saved) (saved : Saved) (before : List ℕ → Type 0) (d c : List ℕ) (n : ℕ) → Keeps (other next) held d → before d → gate_at d (start_of next) ≡ Other → Keeps (other next) held c → PartWritten (start_of next + 1) n d c
    → MidSave before held saved c
filling_stands next held saved before d c n keeps was gate now torn =
    stood_held next held saved before d c keeps was now (nothing_shut c (start_of next) (stays_shut d c (start_of next) n (is_shut d (start_of next) gate) torn))

-- the gate is opened before the whole rest
pub opening_stands : (next : Slot) (held : Option Saved) (saved : Saved) (before : List ℕ → Type 0) (d c : List ℕ) → Keeps (other next) held d → before d → rank held < rank (Some saved) → IsFilled (start_of next) saved d → Keeps (other next) held c → PartWritten (start_of next) 1 d c
    → MidSave before held saved c
opening_stands next held saved before d c keeps was low filled now torn = ⊎_elim
    (λ none. stood_held next held saved before d c keeps was now none)
    (λ is. stood_new next held saved before d c low keeps was now is)
    (opening d c (start_of next) saved filled torn)

module _ {D : Type 0} (seen : D → Option (List ℕ)) where
  pub stays_refl : (slots : Slots D) → Stays seen slots slots
  stays_refl slots = record { found = refl; held = refl; next = refl; record_is = refl; told = same_told (seen slots.disk) (seen slots.disk) refl }

  pub stays_looked : (old : Slots D) (disk : D) (gate : Gate) (settled : Bool) → seen disk ≡ seen old.disk → Stays seen old (record old { disk = disk; gate = gate; settled = settled })
  stays_looked old disk gate settled same = record {
    found = refl;
    held = refl;
    next = refl;
    record_is = ap (λ (o : Option (List ℕ)). option_and_then (λ image. slot_at image (start_of (other old.next))) o) same;
    told = same_told (seen old.disk) (seen disk) same;
  }

module _ {D : Type 0} (seen : D → Option (List ℕ)) (left_now : D → List ℕ → Type 0) where
  pub held_at : (slots : Slots D) (image : List ℕ) → seen slots.disk ≡ Some image → held_of seen slots ≡ slot_at image (start_of (other slots.next))
  held_at slots image is = ap (λ (o : Option (List ℕ)). option_and_then (λ image. slot_at image (start_of (other slots.next))) o) is

  pub held_none : (slots : Slots D) → seen slots.disk ≡ None → held_of seen slots ≡ None
  held_none slots is = ap (λ (o : Option (List ℕ)). option_and_then (λ image. slot_at image (start_of (other slots.next))) o) is

  module _ (old : Slots D) (disk : D) (gate : Gate) (settled : Bool) (at n : ℕ) (kept : IsKept seen left_now old) (room : InRoom old.next at n)
      (steps : Steps (PartWritten at n) (seen old.disk) (seen disk)) (crash : IsAmong (left_now disk) (MadeOf (PartWritten at n) (left_now old.disk))) where
    abbrev new : Slots D
    new = record old { disk = disk; gate = gate; settled = settled }

    same_from : (o : Option (List ℕ)) → seen old.disk ≡ o → held_of seen new ≡ held_of seen old
    same_from None is = held_none new (subst (λ (o : Option (List ℕ)). Steps (PartWritten at n) o (seen disk)) is steps) ∙ sym (held_none old is)
    same_from (Some image) is =
        let step = subst (λ (o : Option (List ℕ)). Steps (PartWritten at n) o (seen disk)) is steps in
        held_at new step.0 step.1 ∙ (keeps_torn old.next (held_of seen old) image step.0 at n room (kept.notes image is).keeps step.2).same

    pub held_same : held_of seen new ≡ held_of seen old
    held_same = same_from (seen old.disk) refl

    pub stays_new : Stays seen old new
    stays_new = record { found = refl; held = refl; next = refl; record_is = held_same; told = steps_told (PartWritten at n) (seen old.disk) (seen disk) steps }

    -- each image keeps the held record
    pub image_keeps : (c : List ℕ) → left_now disk c → Keeps (other old.next) (held_of seen old) c
    image_keeps c left =
        let from = crash c left in
        keeps_torn old.next (held_of seen old) from.source c at n room (kept.images from.source from.is_one) from.made

    notes_new : (settled ≡ true → (image : List ℕ) → seen disk ≡ Some image → gate_at image (start_of old.next) ≡ gate)
        → (image : List ℕ) → seen disk ≡ Some image → Notes new (held_of seen new) image
    notes_new is_gate image is =
        let from = stepped_from (PartWritten at n) (seen old.disk) (seen disk) image steps is in
        let notes = kept.notes from.0 from.1 in
        record {
          keeps = subst (λ (h : Option Saved). Keeps (other old.next) h image) (sym held_same) (keeps_torn old.next (held_of seen old) from.0 image at n room notes.keeps from.2);
          number = ap (λ (h : Option Saved). option_map (λ saved. saved.number) h) held_same ∙ notes.number;
          kept_gate = gate_kept old.next (held_of seen old) from.0 image at n room notes.keeps from.2 ∙ notes.kept_gate;
          gate = λ now. is_gate now image is;
        }

    pub kept_new : (settled ≡ true → IsDurable (seen disk) (left_now disk)) → (settled ≡ true → (image : List ℕ) → seen disk ≡ Some image → gate_at image (start_of old.next) ≡ gate) → IsKept seen left_now new
    kept_new only is_gate = record {
      images = λ c left. subst (λ (h : Option Saved). Keeps (other old.next) h c) (sym held_same) (image_keeps c left);
      notes = notes_new is_gate;
      settled = only;
      found = kept.found;
    }
