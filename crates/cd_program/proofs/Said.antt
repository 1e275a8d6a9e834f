-- Lines that were written, in whole or in part.
use Rattle.std.proofs.Common.{◌≡◌, ◌∙◌, ◌++◌, ℕ, List, [], length, take, drop, Option, Some, None, option_map, length-append, refl, ap, sym, arith}
use Rattle.std.proofs.lemmas.List.{take-append-drop, append_assoc, append-nil}
use Rattle.cd_outside.specs.declared.given.Given.{Given}
use Rattle.cd_outside.specs.declared.given.Given.TheVariants as given
use Rattle.cd_outside.specs.Given.{IsGivenOf}
use Rattle.cd_program.specs.Output.{Wrote, FellShort}

-- two writes after one another
both_steps : {A : Type 0} (f g h : A → A) (first then now : Option A) → then ≡ option_map f first → now ≡ option_map g then → ((x : A) → g (f x) ≡ h x) → now ≡ option_map h first
both_steps f g h None then now one two same = two ∙ ap (option_map g) one
both_steps f g h (Some x) then now one two same = two ∙ ap (option_map g) one ∙ ap Some (same x)

-- a value by what is said of it
Some-injective : {x y : List ℕ} → Some x ≡ Some y → x ≡ y
Some-injective e = cc

-- one line was written, or a part of it where the sink failed
pub wrote_line : (how : Given) (line bytes part : List ℕ) (complete : Type 0) (old new : Option (List ℕ)) → bytes ≡ line → IsGivenOf how part bytes → new ≡ option_map (λ held. held ++ part) old → (how ≡ given.Failed → complete → ⊥) → Wrote line complete old new
wrote_line given.All line bytes part complete old new same is held failed = record {
  text = part;
  held = held;
  front = ([], append-nil part ∙ (is ∙ same));
  all = λ claim. is ∙ same;
}
wrote_line given.Failed line bytes part complete old new same is held failed = record {
  text = part;
  held = held;
  front = (drop is.0 bytes, ap (λ (x : List ℕ). x ++ drop is.0 bytes) is.2 ∙ take-append-drop is.0 bytes ∙ same);
  all = λ claim. absurd (failed refl claim);
}

-- of two lines a part of the first was written
pub wrote_part : (first second part : List ℕ) (complete : Type 0) (old new : Option (List ℕ)) → IsGivenOf given.Failed part first → new ≡ option_map (λ held. held ++ part) old → (complete → ⊥) → Wrote (first ++ second) complete old new
wrote_part first second part complete old new is held no_claim = record {
  text = part;
  held = held;
  front = (drop is.0 first ++ second, ap (λ (x : List ℕ). x ++ (drop is.0 first ++ second)) is.2 ∙ sym (append_assoc (take is.0 first) (drop is.0 first) second) ∙ ap (λ (x : List ℕ). x ++ second) (take-append-drop is.0 first));
  all = λ claim. absurd (no_claim claim);
}

-- the first line was written, and so much of the second
pub wrote_more : (first second part : List ℕ) (complete : Type 0) (old then new : Option (List ℕ)) → part ≡ first → then ≡ option_map (λ held. held ++ part) old → Wrote second complete then new → Wrote (first ++ second) complete old new
wrote_more first second part complete old then new is held more = record {
  text = part ++ more.text;
  held = both_steps (λ (h : List ℕ). h ++ part) (λ (h : List ℕ). h ++ more.text) (λ (h : List ℕ). h ++ (part ++ more.text)) old then new held more.held (λ h. append_assoc h part more.text);
  front = (more.front.0, ap (λ (x : List ℕ). (x ++ more.text) ++ more.front.0) is ∙ append_assoc first more.text more.front.0 ∙ ap (λ (x : List ℕ). first ++ x) more.front.1);
  all = λ claim. ap (λ (x : List ℕ). x ++ more.text) is ∙ ap (λ (x : List ℕ). first ++ x) (more.all claim);
}

-- a sink that was given the whole line did not fall short of it
pub not_short : (line part more : List ℕ) (old then new : Option (List ℕ)) → part ≡ line → then ≡ option_map (λ held. held ++ part) old → new ≡ option_map (λ held. held ++ more) then → FellShort line old new → ⊥
not_short line part more old then new is first second fell =
    let written : then ≡ Some (fell.held ++ part) = first ∙ ap (λ (o : Option (List ℕ)). option_map (λ held. held ++ part) o) fell.before in
    let all : new ≡ Some ((fell.held ++ part) ++ more) = second ∙ ap (λ (o : Option (List ℕ)). option_map (λ held. held ++ more) o) written in
    let same : (fell.held ++ part) ++ more ≡ fell.held ++ fell.text = Some-injective (sym all ∙ fell.after) in
    let count : length ((fell.held ++ part) ++ more) ≡ length (fell.held ++ fell.text) = ap length same in
    absurd (omega (arith, count, ap length is, length-append (fell.held ++ part) more, length-append fell.held part, length-append fell.held fell.text, fell.short))

-- what is complete in more cases
pub wrote_as : (line : List ℕ) (complete other : Type 0) (old new : Option (List ℕ)) → (other → complete) → Wrote line complete old new → Wrote line other old new
wrote_as line complete other old new more wrote = record { text = wrote.text; held = wrote.held; front = wrote.front; all = λ claim. wrote.all (more claim) }

nothing_added : (old : Option (List ℕ)) → old ≡ option_map (λ held. held ++ []) old
nothing_added None = refl
nothing_added (Some held) = ap Some (sym (append-nil held))

-- nothing was written
pub wrote_none : (line : List ℕ) (complete : Type 0) (old new : Option (List ℕ)) → (complete → ⊥) → new ≡ old → Wrote line complete old new
wrote_none line complete old new no_claim same = record {
  text = [];
  held = same ∙ nothing_added old;
  front = (line, refl);
  all = λ claim. absurd (no_claim claim);
}
