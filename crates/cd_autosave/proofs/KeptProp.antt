-- Two proofs of what a saver keeps are the same, so its ghost field may hold it truncated.
use Rattle.std.proofs.Common.{◌≡◌, ℕ, ◌+◌, ◌<◌, ◌≤◌, List, length, Option, Some, None, IfSome, option_map}
use denote.Struct.Props.{props}
use mathlib.Core.Logic.{∥∥₁_elim}
use Rattle.cd_autosave.specs.Places.{start_of, other}
use Rattle.cd_autosave.specs.Image.{Saved, slot_at, gate_at, rank}
use Rattle.cd_autosave.specs.Saving.{IsWhole, Keeps, Notes, IsKept, held_of}
use Rattle.cd_autosave.specs.declared.limits.TheConstants.{MAX_NUMBER}
use Rattle.cd_autosave.specs.declared.slot.Slot.{Slot}
use Rattle.cd_autosave.specs.declared.slots.Slots.{Slots}
use Rattle.cd_outside.specs.declared.limits.TheConstants.{MAX_KEPT_BYTES}

Saved-set : IsSet Saved
Saved-set x y p q =
    let numbers : IsProp (x.number ≡ y.number) = hlevel props in
    let texts : IsProp (x.text ≡ y.text) = hlevel props in
    λ i j. record {
      number = numbers (λ k. (p k).number) (λ k. (q k).number) i j;
      text = texts (λ k. (p k).text) (λ k. (q k).text) i j;
    }

IsWhole-prop : (slot : Slot) (image : List ℕ) (saved : Saved) → IsProp (IsWhole slot image saved)
IsWhole-prop slot image saved x y =
    let within : IsProp (start_of slot + 13 + length saved.text ≤ length image) = hlevel props in
    let short : IsProp (length saved.text ≤ MAX_KEPT_BYTES) = hlevel props in
    λ i. record { within = within x.within y.within i; short = short x.short y.short i }

whole-prop : (slot : Slot) (image : List ℕ) (held : Option Saved) → IsProp (IfSome held (IsWhole slot image))
whole-prop slot image None = λ x y i. tt
whole-prop slot image (Some saved) = IsWhole-prop slot image saved

Keeps-prop : (slot : Slot) (held : Option Saved) (image : List ℕ) → IsProp (Keeps slot held image)
Keeps-prop slot held image x y =
    let same : IsProp (slot_at image (start_of slot) ≡ held) = hlevel (props, Saved-set) in
    let some : IsProp (0 < rank held) = hlevel props in
    λ i. record {
      same = same x.same y.same i;
      whole = whole-prop slot image held x.whole y.whole i;
      some = λ first. some (x.some first) (y.some first) i;
    }

module _ {D : Type 0} where
  Notes-prop : (slots : Slots D) (held : Option Saved) (image : List ℕ) → IsProp (Notes slots held image)
  Notes-prop slots held image x y =
      let number : IsProp (option_map (λ saved. saved.number) held ≡ slots.held) = hlevel props in
      let kept_gate : IsProp (gate_at image (start_of (other slots.next)) ≡ slots.kept_gate) = hlevel props in
      let gate : IsProp (gate_at image (start_of slots.next) ≡ slots.gate) = hlevel props in
      λ i. record {
        keeps = Keeps-prop (other slots.next) held image x.keeps y.keeps i;
        number = number x.number y.number i;
        kept_gate = kept_gate x.kept_gate y.kept_gate i;
        gate = λ settled. gate (x.gate settled) (y.gate settled) i;
      }

  module _ (seen : D → Option (List ℕ)) (left_now : D → List ℕ → Type 0) (slots : Slots D) where
    pub IsKept-prop : IsProp (IsKept seen left_now slots)
    IsKept-prop x y =
        let found : IsProp (slots.found ≤ MAX_NUMBER) = hlevel props in
        let same : (c : List ℕ) → IsProp (seen slots.disk ≡ Some c) = λ c. hlevel props in
        λ i. record {
          images = λ c left. Keeps-prop (other slots.next) (held_of seen slots) c (x.images c left) (y.images c left) i;
          notes = λ image is. Notes-prop slots (held_of seen slots) image (x.notes image is) (y.notes image is) i;
          settled = λ now c left. same c (x.settled now c left) (y.settled now c left) i;
          found = found x.found y.found i;
        }

    pub kept_at : ∥ IsKept seen left_now slots ∥₁ → IsKept seen left_now slots
    kept_at kept = ∥∥₁_elim kept IsKept-prop (λ k. k)
