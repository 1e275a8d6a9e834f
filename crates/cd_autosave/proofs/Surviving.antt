-- What a crash leaves after saves one after another.
use Rattle.std.proofs.Common.{◌≡◌, inl, inr, ⊎_elim, ◌⊎◌, ℕ, ◌<◌, ◌≤◌, ◌^◌, List, [], ◌∷◌, length, All, refl, sym, ◌∙◌, ap, subst, arith, Option, Some, None}
use Rattle.std.proofs.lemmas.Bool.{cases_lt}
use Rattle.std.proofs.lemmas.List.Elements.{All-nil, All-cons, All-head, All-tail, All-weaker}
use Rattle.cd_outside.specs.declared.given.Given.{Given}
use Rattle.cd_outside.specs.declared.given.Given.TheVariants as given
use Rattle.cd_outside.specs.declared.limits.TheConstants.{MAX_KEPT_BYTES}
use Rattle.cd_tree.specs.declared.tree.Tree.{Tree}
use Rattle.cd_autosave.specs.Image.{Saved, newer, recovered, rank}
use Rattle.cd_autosave.specs.Disk.{IsPresent, Throughout}
use Rattle.cd_autosave.specs.Opening.{IsInvalid, IsDamagedAt, IsDamaged, IsOpened, IsTreeOf, IsTreeText}
use Rattle.cd_autosave.specs.Saving.{IsKnownAt, MidSave, StaysTold, held_of, held_after}
use Rattle.cd_autosave.specs.Saves.{IsUndamaged, Attempt, IsSave, Saves, IsBegun, IsOneOf, Survives}
use Rattle.cd_autosave.specs.declared.limits.TheConstants.{MAX_NUMBER}
use Rattle.cd_autosave.specs.declared.slot.Slot.{Slot}
use Rattle.cd_autosave.specs.declared.slot.Slot.TheVariants.{First, Second}
use Rattle.cd_autosave.specs.declared.slots.Slots.{Slots}
use Rattle.cd_autosave.proofs.Clock.{loosened, at_the_end}
use Rattle.cd_autosave.proofs.Recovered.{newer_below, newer_above, rank_left, rank_right}

-- ---- damage

valid : (saved : Saved) → length saved.text ≤ MAX_KEPT_BYTES → saved.number ≤ MAX_NUMBER → IsTreeText saved.text → IsInvalid saved → ⊥
valid saved short small tree (inl long) = absurd (omega (arith, short, long))
valid saved short small tree (inr (inl great)) = absurd (omega (arith, small, great))
valid saved short small tree (inr (inr no_tree)) = no_tree tree.0 tree.1

damaged_at : (slot : Slot) (image : List ℕ) → IsDamagedAt slot image → IsDamaged image
damaged_at First image at = inl at
damaged_at Second image at = inr at

some≢none : (saved : Saved) → Some saved ≡ None → ⊥
some≢none saved is = cc is

some_is : {x y : Saved} → Some x ≡ Some y → x ≡ y
some_is same = cc same

same_image : {x y : List ℕ} → Some x ≡ Some y → x ≡ y
same_image same = cc same

-- a slot whose record is known is not damaged, where the save's is valid and no image before was damaged
sound_slot : (before : List ℕ → Type 0) (saved : Saved) (slot : Slot) (c : List ℕ) → (IsInvalid saved → ⊥) → ((d : List ℕ) → before d → IsUndamaged d) → IsKnownAt before saved c slot → IsDamagedAt slot c → ⊥
sound_slot before saved slot c valid sound (inl none) at = some≢none at.saved (sym at.open_slot ∙ none)
sound_slot before saved slot c valid sound (inr (inl is)) at = valid (subst IsInvalid (some_is (sym at.open_slot ∙ is)) at.invalid)
sound_slot before saved slot c valid sound (inr (inr (d, was, same))) at =
    sound d was (damaged_at slot d (record { saved = at.saved; open_slot = sym same ∙ at.open_slot; invalid = at.invalid }))

undamaged_mid : (before : List ℕ → Type 0) (held : Option Saved) (saved : Saved) (c : List ℕ) → (IsInvalid saved → ⊥) → ((d : List ℕ) → before d → IsUndamaged d) → MidSave before held saved c → IsUndamaged c
undamaged_mid before held saved c valid sound mid (inl at) = sound_slot before saved First c valid sound (mid.each_slot First) at
undamaged_mid before held saved c valid sound mid (inr at) = sound_slot before saved Second c valid sound (mid.each_slot Second) at

-- ---- the record that is held

newer_either : (a b : Option Saved) → (newer a b ≡ a) ⊎ (newer a b ≡ b)
newer_either None b = inr refl
newer_either (Some a) None = inl refl
newer_either (Some a) (Some b) = elim (cases_lt a.number b.number) [
  | inl low ↦ inr (newer_below a b low)
  | inr high ↦ inl (newer_above a b high)
]

held_either : (answer : Given) (held : Option Saved) (saved : Saved) → (held_after answer held saved ≡ held) ⊎ (held_after answer held saved ≡ Some saved)
held_either given.All held saved = newer_either held (Some saved)
held_either given.Failed held saved = inl refl

held_later : (answer : Given) (held : Option Saved) (saved : Saved) → rank held ≤ rank (held_after answer held saved)
held_later given.All held saved = rank_left held (Some saved)
held_later given.Failed held saved = omega arith

failed≢all : given.Failed ≡ given.All → ⊥
failed≢all is = cc is

held_reaches : (answer : Given) (held : Option Saved) (saved : Saved) → answer ≡ given.All → saved.number < rank (held_after answer held saved)
held_reaches given.All held saved is = let above = rank_right held (Some saved) in omega (arith, above)
held_reaches given.Failed held saved is = absurd (failed≢all is)

-- ---- what was acknowledged

abbrev Acknowledged : Option Saved → Attempt → Type 0
Acknowledged held attempt = attempt.answer ≡ given.All → attempt.saved.number < rank held

still_acknowledged : (attempts : List Attempt) (held later : Option Saved) → rank held ≤ rank later → All (Acknowledged held) attempts → All (Acknowledged later) attempts
still_acknowledged attempts held later above all = All-weaker (Acknowledged held) (Acknowledged later) (λ attempt here is. let below = here is in omega (arith, below, above)) attempts all

one_of : (first : Option Saved) (attempts : List Attempt) (a b : Option Saved) → b ≡ a → (a ≡ first) ⊎ IsOneOf attempts a → (b ≡ first) ⊎ IsOneOf attempts b
one_of first attempts a b same known = ⊎_elim (λ is. inl (same ∙ is)) (λ one. inr (subst (IsOneOf attempts) (sym same) one)) known

one_more : (first : Option Saved) (attempts : List Attempt) (last : Attempt) (a : Option Saved) → (a ≡ first) ⊎ IsOneOf attempts a → (a ≡ first) ⊎ IsOneOf (last ∷ attempts) a
one_more first attempts last a known = ⊎_elim (λ is. inl is) (λ one. inr (inr one)) known

pub resumed : (first : Option Saved) (begun earlier : List Attempt) (image : List ℕ) (held : Option Saved) (number : ℕ) (tree : Option Tree) → Survives first begun earlier (recovered image) → IsOpened held number tree image
    → Survives first begun earlier held × IsTreeOf held tree
resumed first begun earlier image held number tree survives opened =
    (subst (Survives first begun earlier) (sym opened.held_is) survives, subst (λ found. IsTreeOf found tree) (sym opened.held_is) opened.tree_is)

module _ {D : Type 0} (seen : D → Option (List ℕ)) (left_now : D → List ℕ → Type 0) (clock : D → ℕ) (left_at : D → ℕ → List ℕ → Type 0)
    (present : (disk : D) → IsPresent left_now clock left_at disk) where
  abbrev Save : Attempt → Slots D → Slots D → Type 0
  Save = IsSave seen left_now clock left_at

  pub is_save : (old new : Slots D) (saved : Saved) (answer : Given) → length saved.text ≤ MAX_KEPT_BYTES → (old.found ≤ 2 ^ 62 → saved.number ≤ MAX_NUMBER)
      → Throughout clock left_at old.disk new.disk (MidSave (left_now old.disk) (held_of seen old) saved)
      → (answer ≡ given.All → (image : List ℕ) → left_now new.disk image → saved.number < rank (recovered image))
      → ((image : List ℕ) → seen new.disk ≡ Some image → held_of seen new ≡ held_after answer (held_of seen old) saved)
      → new.found ≡ old.found → StaysTold (seen old.disk) (seen new.disk) → Save (record { saved = saved; answer = answer }) old new
  is_save old new saved answer short small run reaches held found told = record {
    meanwhile = run;
    undamaged = λ few text sound. loosened clock left_at old.disk new.disk _ _ run (λ image mid. undamaged_mid (left_now old.disk) (held_of seen old) saved image (valid saved short (small few) text) sound mid);
    acknowledged = reaches;
    held = held;
    found = found;
    told = told;
  }

  -- what is known between two saves
  record Reached (first : Option Saved) (attempts : List Attempt) (slots : Slots D) : Type 0 where
    told : (image : List ℕ) × (seen slots.disk ≡ Some image)
    images : (c : List ℕ) → left_now slots.disk c → (recovered c ≡ first) ⊎ IsOneOf attempts (recovered c)
    held : (held_of seen slots ≡ first) ⊎ IsOneOf attempts (held_of seen slots)
    acknowledged : All (Acknowledged (held_of seen slots)) attempts

  reached_first : (slots : Slots D) → IsBegun seen left_now slots → Reached (held_of seen slots) [] slots
  reached_first slots begun = record {
    told = (begun.image, begun.seen_is);
    images = λ c left. inl (ap recovered (same_image (sym (begun.durable c left) ∙ begun.seen_is)) ∙ sym begun.opened.held_is);
    held = inl refl;
    acknowledged = All-nil (Acknowledged (held_of seen slots));
  }

  survives_image : (first : Option Saved) (earlier : List Attempt) (last : Attempt) (before : Slots D) (c : List ℕ) → Reached first earlier before → MidSave (left_now before.disk) (held_of seen before) last.saved c → Survives first (last ∷ earlier) earlier (recovered c)
  survives_image first earlier last before c reached mid = record {
    known = ⊎_elim
        (λ from. one_more first earlier last (recovered c) (one_of first earlier (recovered from.0) (recovered c) from.2 (reached.images from.0 from.1)))
        (λ rest. ⊎_elim
        (λ is. one_more first earlier last (recovered c) (one_of first earlier (held_of seen before) (recovered c) is reached.held))
        (λ is. inr (inl is))
        rest)
        mid.known;
    not_older = still_acknowledged earlier (held_of seen before) (recovered c) mid.not_below reached.acknowledged;
  }

  survives_save : (first : Option Saved) (earlier : List Attempt) (last : Attempt) (before now : Slots D) → Reached first earlier before → Save last before now → Throughout clock left_at before.disk now.disk (λ c. Survives first (last ∷ earlier) earlier (recovered c))
  survives_save first earlier last before now reached save = loosened clock left_at before.disk now.disk _ _ save.meanwhile (λ c mid. survives_image first earlier last before c reached mid)

  reached_next : (first : Option Saved) (earlier : List Attempt) (last : Attempt) (before now : Slots D) → Reached first earlier before → Save last before now → Reached first (last ∷ earlier) now
  reached_next first earlier last before now reached save =
      let told = save.told reached.told.0 reached.told.1 in
      let held_is = save.held told.0 told.1 in
      let run = survives_save first earlier last before now reached save in
      record {
        told = told;
        images = λ c left. (at_the_end clock left_at left_now present before.disk now.disk _ run c left).known;
        held = ⊎_elim
            (λ is. one_more first earlier last (held_of seen now) (one_of first earlier (held_of seen before) (held_of seen now) (held_is ∙ is) reached.held))
            (λ is. inr (inl (held_is ∙ is)))
            (held_either last.answer (held_of seen before) last.saved);
        acknowledged = All-cons (Acknowledged (held_of seen now)) last earlier
            (λ all. subst (λ held. last.saved.number < rank held) (sym held_is) (held_reaches last.answer (held_of seen before) last.saved all))
            (still_acknowledged earlier (held_of seen before) (held_of seen now) (subst (λ held. rank (held_of seen before) ≤ rank held) (sym held_is) (held_later last.answer (held_of seen before) last.saved)) reached.acknowledged);
      }

  reached : (earlier : List Attempt) (first before : Slots D) → IsBegun seen left_now first → Saves Save earlier first before → Reached (held_of seen first) earlier before
  reached [] first before begun is = subst (λ slots. Reached (held_of seen first) [] slots) (sym is) (reached_first first begun)
  reached (attempt ∷ earlier) first before begun from = reached_next (held_of seen first) earlier attempt from.0 before (reached earlier first from.0 begun from.1) from.2

  pub survives : (first before now : Slots D) (earlier : List Attempt) (last : Attempt) → IsBegun seen left_now first → Saves Save earlier first before → Save last before now
      → Throughout clock left_at before.disk now.disk (λ c. Survives (held_of seen first) (last ∷ earlier) earlier (recovered c))
  survives first before now earlier last begun saves save = survives_save (held_of seen first) earlier last before now (reached earlier first before begun saves) save

  not_older_now : (earlier : List Attempt) (first now : Slots D) → IsBegun seen left_now first → Saves Save earlier first now → (c : List ℕ) → left_now now.disk c → All (Acknowledged (recovered c)) earlier
  not_older_now [] first now begun is c left = All-nil (Acknowledged (recovered c))
  not_older_now (attempt ∷ earlier) first now begun from c left =
      let run = survives_save (held_of seen first) earlier attempt from.0 now (reached earlier first from.0 begun from.1) from.2 in
      All-cons (Acknowledged (recovered c)) attempt earlier (λ all. from.2.acknowledged all c left) (at_the_end clock left_at left_now present from.0.disk now.disk _ run c left).not_older

  pub survives_between : (first now : Slots D) (earlier : List Attempt) → IsBegun seen left_now first → Saves Save earlier first now → (c : List ℕ) → left_now now.disk c → Survives (held_of seen first) earlier earlier (recovered c)
  survives_between first now earlier begun saves c left = record {
    known = (reached earlier first now begun saves).images c left;
    not_older = not_older_now earlier first now begun saves c left;
  }

  -- ---- no image is damaged

  abbrev IsOfTree : Attempt → Type 0
  IsOfTree attempt = IsTreeText attempt.saved.text

  found_same : (earlier : List Attempt) (first before : Slots D) → Saves Save earlier first before → before.found ≡ first.found
  found_same [] first before is = ap (λ slots. slots.found) is
  found_same (attempt ∷ earlier) first before from = from.2.found ∙ found_same earlier first from.0 from.1

  small_before : (earlier : List Attempt) (first before : Slots D) → Saves Save earlier first before → first.found ≤ 2 ^ 62 → before.found ≤ 2 ^ 62
  small_before earlier first before saves small = subst (λ n. n ≤ 2 ^ 62) (sym (found_same earlier first before saves)) small

  sound : (earlier : List Attempt) (first before : Slots D) → IsBegun seen left_now first → Saves Save earlier first before → first.found ≤ 2 ^ 62 → All IsOfTree earlier
      → (c : List ℕ) → left_now before.disk c → IsUndamaged c
  sound [] first before begun is small texts c left =
      let left_first = subst (λ slots. left_now slots.disk c) is left in
      subst IsUndamaged (same_image (sym begun.seen_is ∙ begun.durable c left_first)) begun.opened.sound
  sound (attempt ∷ earlier) first before begun from small texts c left =
      let run = from.2.undamaged (small_before earlier first from.0 from.1 small) (All-head IsOfTree attempt earlier texts) (sound earlier first from.0 begun from.1 small (All-tail IsOfTree attempt earlier texts)) in
      at_the_end clock left_at left_now present from.0.disk before.disk _ run c left

  pub undamaged : (first before now : Slots D) (earlier : List Attempt) (last : Attempt) → IsBegun seen left_now first → Saves Save earlier first before → Save last before now
      → first.found ≤ 2 ^ 62 → All IsOfTree (last ∷ earlier) → Throughout clock left_at before.disk now.disk IsUndamaged
  undamaged first before now earlier last begun saves save small texts =
      save.undamaged (small_before earlier first before saves small) (All-head IsOfTree last earlier texts) (sound earlier first before begun saves small (All-tail IsOfTree last earlier texts))
