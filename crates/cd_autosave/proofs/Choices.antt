-- Which of two records is kept, and that the slots are then as they have to be.
use Rattle.std.proofs.Common.{◌≡◌, inl, inr, ℕ, ◌<◌, ◌≤◌, ◌^◌, nat_lt, true, List, refl, sym, ◌∙◌, ap, subst, arith, Option, Some, None, IfSome, option_map}
use Rattle.std.specs.Prelude.{option_and_then}
use Rattle.std.proofs.lemmas.Bool.{cases_lt, lt-ltb, le-ltb, cond-true, cond-false}
use Rattle.cd_tree.specs.declared.tree.Tree.{Tree}
use Rattle.cd_autosave.specs.Places.{other}
use Rattle.cd_autosave.specs.Image.{Saved, slot_at, gate_at, newer, rank}
use Rattle.cd_autosave.specs.Disk.{IsDurable}
use Rattle.cd_autosave.specs.Saving.{IsWhole, Notes, IsKept, held_of}
use Rattle.cd_autosave.specs.Opening.{IsInvalid, IsDamagedAt, IsDamaged, Holds, IsFound, number_or, IsTreeOf, kept_of, record_of, gate_for, count_or, slots_over, IsOpened}
use Rattle.cd_autosave.specs.declared.limits.TheConstants.{MAX_NUMBER}
use Rattle.cd_autosave.specs.declared.slot.Slot.{Slot}
use Rattle.cd_autosave.specs.declared.slot.Slot.TheVariants.{First, Second}
use Rattle.cd_autosave.specs.declared.slot.Gate.{Gate}
use Rattle.cd_autosave.specs.declared.slots.Slots.{Slots}
use Rattle.cd_autosave.specs.declared.found.Record.{Record}
use Rattle.cd_autosave.specs.declared.found.Found.{Found}
use Rattle.cd_autosave.proofs.Recovered.{newer_below, newer_above}
use Rattle.cd_autosave.specs.declared.limits.TheConstants.{SECOND_START}

-- what the chosen slot holds
abbrev pick : Slot → Option Saved → Option Saved → Option Saved
pick First one two = one
pick Second one two = two

-- the chosen slot holds the newer of two, and this was read of it
record Choice (image : List ℕ) (one two : Option Saved) (k : Slot) (r : Option Record) : Type 0 where
  newest : newer one two ≡ pick k one two
  whole : IfSome (pick k one two) (IsWhole k image)
  number : option_map (λ (s : Saved). s.number) (pick k one two) ≡ option_map (λ (f : Record). f.number) r
  tree : IsTreeOf (pick k one two) (option_map (λ (f : Record). f.tree) r)
  some : k ≡ First → 0 < rank (pick k one two)

second≢first : Second ≡ First → ⊥
second≢first is = cc is

choice : (image : List ℕ) (one two : Option Saved) (a b : Option Record) → Holds First image one a → Holds Second image two b → Choice image one two (kept_of a b) (record_of a b)
choice image None None None None h1 h2 = record { newest = refl; whole = tt; number = refl; tree = tt; some = λ is. absurd (second≢first is) }
choice image None (Some t) None (Some b) h1 h2 = record { newest = refl; whole = h2.whole; number = ap Some h2.number; tree = h2.tree; some = λ is. absurd (second≢first is) }
choice image (Some s) None (Some a) None h1 h2 = record { newest = refl; whole = h1.whole; number = ap Some h1.number; tree = h1.tree; some = λ is. omega arith }
choice image (Some s) (Some t) (Some a) (Some b) h1 h2 = elim (cases_lt a.number b.number) [
  | inl low ↦
      subst (λ k. Choice image (Some s) (Some t) k (record_of (Some a) (Some b))) (sym (cond-true (nat_lt a.number b.number) Second First (lt-ltb a.number b.number low)))
      (subst (λ r. Choice image (Some s) (Some t) Second r) (sym (cond-true (nat_lt a.number b.number) (Some b) (Some a) (lt-ltb a.number b.number low)))
      (record { newest = newer_below s t (omega (arith, low, h1.number, h2.number)); whole = h2.whole; number = ap Some h2.number; tree = h2.tree; some = λ is. absurd (second≢first is) }))
  | inr high ↦
      subst (λ k. Choice image (Some s) (Some t) k (record_of (Some a) (Some b))) (sym (cond-false (nat_lt a.number b.number) Second First (le-ltb a.number b.number high)))
      (subst (λ r. Choice image (Some s) (Some t) First r) (sym (cond-false (nat_lt a.number b.number) (Some b) (Some a) (le-ltb a.number b.number high)))
      (record { newest = newer_above s t (omega (arith, high, h1.number, h2.number)); whole = h1.whole; number = ap Some h1.number; tree = h1.tree; some = λ is. omega arith }))
]
choice image None two (Some a) b h1 h2 = absurd h1
choice image (Some s) two None b h1 h2 = absurd h1
choice image None None None (Some b) h1 h2 = absurd h2
choice image None (Some t) None None h1 h2 = absurd h2
choice image (Some s) None (Some a) (Some b) h1 h2 = absurd h2
choice image (Some s) (Some t) (Some a) None h1 h2 = absurd h2

-- ---- what was read whole is not damaged

unspoilt : (slot : Slot) (image : List ℕ) (saved : Saved) (held : Option Record) → Holds slot image (Some saved) held → IsInvalid saved → ⊥
unspoilt slot image saved None holds why = holds
unspoilt slot image saved (Some r) holds (inl long) = absurd (omega (arith, long, holds.whole.short))
unspoilt slot image saved (Some r) holds (inr (inl great)) = absurd (omega (arith, great, holds.number, r.small))
unspoilt slot image saved (Some r) holds (inr (inr no_tree)) = no_tree r.tree holds.tree

sound_at : (slot : Slot) (image : List ℕ) (found : Found) → IsFound slot image found → IsDamagedAt slot image → ⊥
sound_at slot image found is damaged = unspoilt slot image damaged.saved found.held (subst (λ o. Holds slot image o found.held) damaged.open_slot is.holds) damaged.invalid

sound : (image : List ℕ) (one two : Found) → IsFound First image one → IsFound Second image two → IsDamaged image → ⊥
sound image one two is_one is_two (inl first) = sound_at First image one is_one first
sound image one two is_one is_two (inr second) = sound_at Second image two is_two second

-- ---- the slots

counts : (o : Option Saved) → count_or (option_map (λ (s : Saved). s.number) o) ≡ number_or o
counts None = refl
counts (Some s) = refl

some_at : {A : Type 0} (P : A → Type 0) (o : Option A) (a : A) → o ≡ Some a → IfSome o P → P a
some_at P o a is has = subst (λ p. IfSome p P) is has

some_when : {A : Type 0} (P : A → Type 0) (o : Option A) → ((a : A) → o ≡ Some a → P a) → IfSome o P
some_when P None each = tt
some_when P (Some a) each = each a refl

module _ {D : Type 0} (seen : D → Option (List ℕ)) (left_now : D → List ℕ → Type 0) (disk : D) where
  held_is : (k : Slot) (held : Option ℕ) (g h : Gate) (image : List ℕ) → seen disk ≡ Some image → held_of seen (slots_over disk k held g h) ≡ pick k (slot_at image 0) (slot_at image SECOND_START)
  held_is First held g h image is = ap (λ o. option_and_then (λ bytes. slot_at bytes 0) o) is
  held_is Second held g h image is = ap (λ o. option_and_then (λ bytes. slot_at bytes SECOND_START) o) is

  notes_of : (k : Slot) (held : Option ℕ) (r : Option Record) (g h : Gate) (image : List ℕ) → seen disk ≡ Some image → held ≡ option_map (λ (f : Record). f.number) r
      → Choice image (slot_at image 0) (slot_at image SECOND_START) k r → gate_at image 0 ≡ g → gate_at image SECOND_START ≡ h
      → Notes (slots_over disk k held g h) (held_of seen (slots_over disk k held g h)) image
  notes_of First held r g h image is held_r ch one two =
      subst (λ o. Notes (slots_over disk First held g h) o image) (sym (held_is First held g h image is))
      (record { keeps = record { same = refl; whole = ch.whole; some = ch.some }; number = ch.number ∙ sym held_r; kept_gate = one; gate = λ settled. two })
  notes_of Second held r g h image is held_r ch one two =
      subst (λ o. Notes (slots_over disk Second held g h) o image) (sym (held_is Second held g h image is))
      (record { keeps = record { same = refl; whole = ch.whole; some = ch.some }; number = ch.number ∙ sym held_r; kept_gate = two; gate = λ settled. one })

  module _ (first second : Found) (held : Option ℕ) (held_r : held ≡ option_map (λ (f : Record). f.number) (record_of first.held second.held))
      (one : IfSome (seen disk) (λ image. IsFound First image first)) (two : IfSome (seen disk) (λ image. IsFound Second image second)) where
    abbrev arranged : Slots D
    arranged = slots_over disk (kept_of first.held second.held) held first.gate second.gate

    choice_at : (image : List ℕ) → seen disk ≡ Some image → Choice image (slot_at image 0) (slot_at image SECOND_START) (kept_of first.held second.held) (record_of first.held second.held)
    choice_at image is = choice image (slot_at image 0) (slot_at image SECOND_START) first.held second.held (some_at _ (seen disk) image is one).holds (some_at _ (seen disk) image is two).holds

    notes_at : (image : List ℕ) → seen disk ≡ Some image → Notes arranged (held_of seen arranged) image
    notes_at image is = notes_of (kept_of first.held second.held) held (record_of first.held second.held) first.gate second.gate image is held_r (choice_at image is) (some_at _ (seen disk) image is one).gate (some_at _ (seen disk) image is two).gate

    pub arranged_kept : (slots : Slots D) → slots ≡ arranged → IsDurable (seen disk) (left_now disk) → count_or held ≤ MAX_NUMBER → IsKept seen left_now slots
    arranged_kept slots same only small = subst (IsKept seen left_now) (sym same) (record {
      images = λ c left. (notes_at c (only c left)).keeps;
      notes = notes_at;
      settled = λ yes_settled. only;
      found = small;
    })

    pub arranged_opened : (slots : Slots D) (tree : Option Tree) → slots ≡ arranged → tree ≡ option_map (λ (f : Record). f.tree) (record_of first.held second.held)
        → IfSome (seen disk) (λ image. IsOpened (held_of seen slots) slots.found tree image)
    arranged_opened slots tree same tree_is = some_when _ (seen disk) (λ image is.
        let ch = choice_at image is in
        subst (λ s. IsOpened (held_of seen s) s.found tree image) (sym same) (record {
          held_is = held_is (kept_of first.held second.held) held first.gate second.gate image is ∙ sym ch.newest;
          number_is = ap count_or (held_r ∙ sym ch.number) ∙ counts (pick (kept_of first.held second.held) (slot_at image 0) (slot_at image SECOND_START)) ∙ ap number_or (sym ch.newest);
          tree_is = subst (λ o. IsTreeOf o tree) (sym ch.newest) (subst (λ t. IsTreeOf (pick (kept_of first.held second.held) (slot_at image 0) (slot_at image SECOND_START)) t) (sym tree_is) ch.tree);
          sound = sound image first second (some_at _ (seen disk) image is one) (some_at _ (seen disk) image is two);
        }))

pub slots_equal : {D : Type 0} (disk : D) (k : Slot) (held : Option ℕ) (g h : Gate) (found : ℕ) (next : Slot) (gate kept_gate : Gate) → found ≡ count_or held → next ≡ other k
    → gate ≡ gate_for (other k) g h → kept_gate ≡ gate_for k g h
    → ◌≡◌ {A = Slots D} (record { disk = disk; found = found; held = held; next = next; gate = gate; kept_gate = kept_gate; settled = true }) (slots_over disk k held g h)
slots_equal disk k held g h found next gate kept_gate found_is next_is gate_is kept_is =
    λ i. record { disk = disk; found = found_is i; held = held; next = next_is i; gate = gate_is i; kept_gate = kept_is i; settled = true }

pub small_count : (held : Option ℕ) → IfSome held (λ n. n ≤ MAX_NUMBER) → count_or held ≤ 2 ^ 63
small_count None small = omega arith
small_count (Some n) small = small
