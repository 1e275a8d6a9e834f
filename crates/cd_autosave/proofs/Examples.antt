-- Each definition where it holds, and near misses.
use Rattle.std.proofs.Common.{◌≡◌, inl, inr, ℕ, zero, suc, ◌-◌, ◌<◌, ◌≤◌, List, [], ◌∷◌, length, get_or, take, Some, None, refl, sym, ap, arith}
use Rattle.std.specs.Prelude.{codes}
use Rattle.std.proofs.lemmas.List.Elements.{All-nil, All-cons, All-head}
use Rattle.cd_outside.specs.declared.given.Given.TheVariants as given
use Rattle.cd_autosave.specs.Image.{byte_at, Saved, newer, recovered, rank, gate_at, rest_of}
use Rattle.cd_autosave.specs.Disk.{IsOutside, PartWritten, Written, SameImages, IsPresent, Throughout}
use Rattle.cd_autosave.specs.Saving.{MidSave, held_after}
use Rattle.cd_autosave.specs.Saves.{Attempt, Survives}
use Rattle.cd_autosave.specs.declared.slot.Gate.TheVariants.{Missing, One, Other}

abbrev second : Saved
second = record { number = 2; text = codes "{}" }

abbrev third : Saved
third = record { number = 3; text = codes "null" }

-- ---- what is recovered

-- the first slot holds the second configuration
abbrev file : List ℕ
file = 1 ∷ 0 ∷ 0 ∷ 0 ∷ 0 ∷ 0 ∷ 0 ∷ 0 ∷ 2 ∷ 0 ∷ 0 ∷ 0 ∷ 2 ∷ 123 ∷ 125 ∷ []

open_slot : recovered file ≡ Some second
open_slot = refl

-- the gate is another byte
closed_slot : recovered (2 ∷ 0 ∷ 0 ∷ 0 ∷ 0 ∷ 0 ∷ 0 ∷ 0 ∷ 2 ∷ 0 ∷ 0 ∷ 0 ∷ 2 ∷ 123 ∷ 125 ∷ []) ≡ None
closed_slot = refl

-- the gate is the last byte
gate_alone : recovered (1 ∷ []) ≡ None
gate_alone = refl

-- bytes past the end count as 0
cut_text : recovered (take 14 file) ≡ Some (record { number = 2; text = 123 ∷ 0 ∷ [] })
cut_text = refl

the_newer : newer (Some second) (Some third) ≡ Some third
the_newer = refl

-- the first slot counts where both numbers are equal
the_first : (text : List ℕ) → newer (Some second) (Some (record { number = 2; text = text })) ≡ Some second
the_first text = refl

gates : (gate_at file 0 ≡ One) × (gate_at file 1 ≡ Other) × (gate_at file 15 ≡ Missing)
gates = (refl, refl, refl)

filling : rest_of second ≡ 0 ∷ 0 ∷ 0 ∷ 0 ∷ 0 ∷ 0 ∷ 0 ∷ 2 ∷ 0 ∷ 0 ∷ 0 ∷ 2 ∷ 123 ∷ 125 ∷ []
filling = refl

-- ---- writes

-- the byte that was written may be any, and the others stay
torn : PartWritten 0 1 (0 ∷ 7 ∷ []) (9 ∷ 7 ∷ [])
torn = record { growth = 0; end = omega arith; reach = omega arith; others = stays }
  where
    stays : (i : ℕ) → i < 2 → IsOutside 0 1 i → byte_at (9 ∷ 7 ∷ []) i ≡ byte_at (0 ∷ 7 ∷ []) i
    stays zero inside (inl low) = absurd (omega (arith, low))
    stays zero inside (inr high) = absurd (omega (arith, high))
    stays (suc zero) inside out = refl
    stays (suc (suc i)) inside out = absurd (omega (arith, inside))

-- a byte after the range has changed
torn_too_far : PartWritten 0 1 (0 ∷ 7 ∷ []) (0 ∷ 8 ∷ []) → ⊥
torn_too_far t = let same = t.others 1 (omega arith) (inr (omega arith)) in absurd (omega (arith, same))

-- the file has become shorter
torn_off : PartWritten 0 1 (0 ∷ 7 ∷ []) (0 ∷ []) → ⊥
torn_off t = absurd (omega (arith, t.end))

-- the file has grown beyond the range
torn_beyond : PartWritten 0 1 [] (0 ∷ 0 ∷ []) → ⊥
torn_beyond t = absurd (omega (arith, t.end, t.reach))

-- a whole write has its piece
written_otherwise : Written 0 (5 ∷ []) (0 ∷ []) (6 ∷ []) → ⊥
written_otherwise w = let same = w.piece_is 0 (omega arith) in absurd (omega (arith, same))

-- ---- moments

-- a disk of which each moment has one image, and the clock shows the last of two
abbrev last_of : List (List ℕ) → ℕ
last_of images = 1

abbrev left_of : List (List ℕ) → ℕ → List ℕ → Type 0
left_of images n c = c ≡ get_or images n []

-- the two images of a file that grew, and what a crash at the second of these moments may leave
grown : SameImages (left_of ([] ∷ (1 ∷ []) ∷ []) 1) (λ c. c ≡ 1 ∷ [])
grown = λ image. (λ left. left, λ left. left)

nil≢cons : (x : ℕ) (xs : List ℕ) → [] ≡ x ∷ xs → ⊥
nil≢cons x xs is = cc is

-- the image of an earlier moment is another one
not_the_earlier : SameImages (left_of ([] ∷ (1 ∷ []) ∷ []) 0) (λ c. c ≡ 1 ∷ []) → ⊥
not_the_earlier same = nil≢cons 1 [] ((same []).0 refl)

present : IsPresent (λ images c. c ≡ get_or images 1 []) last_of left_of ([] ∷ (1 ∷ []) ∷ [])
present = λ image. (λ left. left, λ left. left)

-- the clock shows a later moment than that of which the images are
not_present : IsPresent (λ images c. c ≡ get_or images 0 []) last_of left_of ([] ∷ (1 ∷ []) ∷ []) → ⊥
not_present same = nil≢cons 1 [] (sym ((same (1 ∷ [])).0 refl))

-- how many moments were before this one
abbrev so_many : List (List ℕ) → ℕ
so_many images = length images - 1

-- a file without bytes gets one
through : Throughout so_many left_of ([] ∷ []) ([] ∷ (1 ∷ []) ∷ []) (λ c. length c ≤ 1)
through = record {
  past = λ n low. (omega (arith, low), was n low);
  in_between = short;
}
  where
    was : (n : ℕ) → n ≤ 0 → SameImages (left_of ([] ∷ []) n) (left_of ([] ∷ (1 ∷ []) ∷ []) n)
    was zero low = λ image. (λ left. left, λ left. left)
    was (suc n) low = absurd (omega (arith, low))

    short : (n : ℕ) (image : List ℕ) → 0 ≤ n → n ≤ 1 → left_of ([] ∷ (1 ∷ []) ∷ []) n image → length image ≤ 1
    short zero image low high left = omega (arith, ap length left)
    short (suc zero) image low high left = omega (arith, ap length left)
    short (suc (suc n)) image low high left = absurd (omega (arith, high))

-- in between it was longer
not_through : Throughout so_many left_of ([] ∷ []) ([] ∷ (1 ∷ 2 ∷ []) ∷ [] ∷ []) (λ c. length c ≤ 1) → ⊥
not_through run = let long = run.in_between 1 (1 ∷ 2 ∷ []) (omega arith) (omega arith) refl in absurd (omega (arith, long))

-- what was before has changed
another_past : (P : List ℕ → Type 0) → Throughout so_many left_of ([] ∷ []) ((1 ∷ []) ∷ []) P → ⊥
another_past P run = nil≢cons 1 [] (((run.past 0 (omega arith)).1 []).0 refl)

-- ---- saves

the_save_is_held : (held_after given.All (Some second) third ≡ Some third) × (held_after given.Failed (Some second) third ≡ Some second)
the_save_is_held = (refl, refl)

an_older_save_is_not_held : held_after given.All (Some third) second ≡ Some third
an_older_save_is_not_held = refl

-- the record that was held is lost
held_is_lost : (before : List ℕ → Type 0) → MidSave before (Some third) third file → ⊥
held_is_lost before mid = absurd (omega (arith, mid.not_below))

abbrev acknowledged : Attempt
acknowledged = record { saved = third; answer = given.All }

-- what was acknowledged is lost
older_than_acknowledged : (begun : List Attempt) → Survives (Some second) begun (acknowledged ∷ []) (recovered file) → ⊥
older_than_acknowledged begun s = let above = All-head (λ attempt. attempt.answer ≡ given.All → attempt.saved.number < rank (recovered file)) acknowledged [] s.not_older refl in absurd (omega (arith, above))

abbrev failed : Attempt
failed = record { saved = third; answer = given.Failed }

failed≢all : given.Failed ≡ given.All → ⊥
failed≢all is = cc is

-- what had failed may be lost
older_than_failed : (begun : List Attempt) → Survives (Some second) begun (failed ∷ []) (recovered file)
older_than_failed begun = record {
  known = inl open_slot;
  not_older = All-cons (λ attempt. attempt.answer ≡ given.All → attempt.saved.number < rank (recovered file)) failed [] (λ is. absurd (failed≢all is)) (All-nil (λ attempt. attempt.answer ≡ given.All → attempt.saved.number < rank (recovered file)));
}
