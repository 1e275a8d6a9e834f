-- What a saver keeps once the gate of the next slot is open.
use Rattle.std.proofs.Common.{◌≡◌, ℕ, ◌+◌, ◌≤◌, true, List, [], ◌∷◌, length, refl, sym, ◌∙◌, ap, subst, arith, Option, Some, option_map}
use Rattle.cd_autosave.specs.Places.{start_of, other}
use Rattle.cd_autosave.specs.Image.{byte_at, Saved, slot_at, gate_at, IsFilled}
use Rattle.cd_autosave.specs.Disk.{Written, Steps, IsDurable}
use Rattle.cd_autosave.specs.Saving.{Keeps, Notes, IsKept, held_of}
use Rattle.cd_autosave.specs.declared.slot.Slot.{Slot}
use Rattle.cd_autosave.specs.declared.slot.Slot.TheVariants.{First, Second}
use Rattle.cd_autosave.specs.declared.slot.Gate.TheVariants.{One}
use Rattle.cd_autosave.specs.declared.slots.Slots.{Slots}
use Rattle.cd_autosave.proofs.Recovered.{InRoom, gate_kept}
use Rattle.cd_autosave.proofs.Gating.{gate_one, opened_slot, written_torn}
use Rattle.cd_autosave.proofs.Keeping.{held_at, stepped_from}
use Rattle.cd_outside.specs.declared.limits.TheConstants.{MAX_KEPT_BYTES}

pub other_other : (slot : Slot) → other (other slot) ≡ slot
other_other First = refl
other_other Second = refl

pub gate_room : (slot : Slot) → InRoom slot (start_of slot) 1
gate_room slot = record { low = omega arith; high = omega arith }

module _ {D : Type 0} (seen : D → Option (List ℕ)) (left_now : D → List ℕ → Type 0) where
  module _ (old : Slots D) (disk : D) (saved : Saved) (kept : IsKept seen left_now old) (short : length saved.text ≤ MAX_KEPT_BYTES)
      (filled : (image : List ℕ) → seen old.disk ≡ Some image → IsFilled (start_of old.next) saved image)
      (steps : Steps (Written (start_of old.next) (1 ∷ [])) (seen old.disk) (seen disk)) (only : IsDurable (seen disk) (left_now disk)) where
    abbrev turned : Slots D
    turned = record { disk = disk; found = old.found; held = Some saved.number; next = other old.next; gate = old.kept_gate; kept_gate = One; settled = true }

    -- what reads give then
    record Turned (image : List ℕ) : Type 0 where
      keeps : Keeps old.next (Some saved) image
      gate : gate_at image (start_of old.next) ≡ One
      kept_gate : gate_at image (start_of (other old.next)) ≡ old.kept_gate

    turned_image : (image : List ℕ) → seen disk ≡ Some image → Turned image
    turned_image image is =
        let start = start_of old.next in
        let from = stepped_from (Written start (1 ∷ [])) (seen old.disk) (seen disk) image steps is in
        let whole = filled from.0 from.1 in
        let notes = kept.notes from.0 from.1 in
        let written = from.2 in
        let here : start + 0 ≡ start = omega arith in
        let one : byte_at image start ≡ 1 = ap (λ (n : ℕ). byte_at image n) (sym here) ∙ written.piece_is 0 (omega arith) in
        record {
          keeps = record {
            same = opened_slot from.0 image start saved whole written;
            whole = record { within = omega (arith, whole.within, written.long); short = short };
            some = λ first. omega arith;
          };
          gate = gate_one image start (omega (arith, whole.within, written.long)) one;
          kept_gate = gate_kept old.next (held_of seen old) from.0 image start 1 (gate_room old.next) notes.keeps (written_torn start (1 ∷ []) from.0 image written) ∙ notes.kept_gate;
        }

    pub held_turned : (image : List ℕ) → seen disk ≡ Some image → held_of seen turned ≡ Some saved
    held_turned image is = held_at seen left_now turned image is ∙ ap (λ (s : Slot). slot_at image (start_of s)) (other_other old.next) ∙ (turned_image image is).keeps.same

    turned_keeps : (image : List ℕ) → seen disk ≡ Some image → Keeps (other (other old.next)) (held_of seen turned) image
    turned_keeps image is =
        subst (λ (s : Slot). Keeps s (held_of seen turned) image) (sym (other_other old.next))
        (subst (λ (h : Option Saved). Keeps old.next h image) (sym (held_turned image is)) (turned_image image is).keeps)

    turned_notes : (image : List ℕ) → seen disk ≡ Some image → Notes turned (held_of seen turned) image
    turned_notes image is = record {
      keeps = turned_keeps image is;
      number = ap (λ (h : Option Saved). option_map (λ saved. saved.number) h) (held_turned image is);
      kept_gate = ap (λ (s : Slot). gate_at image (start_of s)) (other_other old.next) ∙ (turned_image image is).gate;
      gate = λ settled_now. (turned_image image is).kept_gate;
    }

    turned_images : (c : List ℕ) → left_now disk c → Keeps (other (other old.next)) (held_of seen turned) c
    turned_images c left = turned_keeps c (only c left)

    pub kept_turned : IsKept seen left_now turned
    kept_turned = record { images = turned_images; notes = turned_notes; settled = λ settled_now. only; found = kept.found }
