-- What holds at each moment of some calls, one after another.
use Rattle.std.proofs.Common.{◌≡◌, ◌⊎◌, inl, inr, ⊎_elim, ℕ, ◌+◌, ◌≤◌, List, Option, ◌∙◌, subst, arith}
use Rattle.std.proofs.lemmas.Bool.{cases_lt}
use Rattle.cd_autosave.specs.Disk.{SameImages, IsPresent, Throughout, IsUnchanged}

module _ {D : Type 0} (clock : D → ℕ) (left_at : D → ℕ → List ℕ → Type 0) where
  -- both of two runs: each image has what one of them says
  pub followed : (a b c : D) (P Q : List ℕ → Type 0) → Throughout clock left_at a b P → Throughout clock left_at b c Q → Throughout clock left_at a c (λ image. P image ⊎ Q image)
  followed a b c P Q one two = record {
    past = λ n low.
        let p = one.past n low in
        let q = two.past n p.0 in
        (q.0, λ image. (λ left. (q.1 image).0 ((p.1 image).0 left), λ left. (p.1 image).1 ((q.1 image).1 left)));
    in_between = λ n image low high left. elim (cases_lt (clock b) n) [
      | inl after ↦ inr (two.in_between n image (omega (arith, after)) high left)
      | inr until ↦ inl (one.in_between n image low until (((two.past n until).1 image).1 left))
    ];
  }

  -- where one says more than the other
  pub loosened : (a b : D) (P Q : List ℕ → Type 0) → Throughout clock left_at a b P → ((image : List ℕ) → P image → Q image) → Throughout clock left_at a b Q
  loosened a b P Q run wider = record { past = run.past; in_between = λ n image low high left. wider image (run.in_between n image low high left) }

  -- one moment more, of which and of the one before it this is known
  pub ticked : (a b : D) (P : List ℕ → Type 0) → clock b ≡ clock a + 1 → ((n : ℕ) → n ≤ clock a → SameImages (left_at a n) (left_at b n))
      → ((image : List ℕ) → left_at a (clock a) image → P image) → ((image : List ℕ) → left_at b (clock b) image → P image) → Throughout clock left_at a b P
  ticked a b P one alike first last = record {
    past = λ n low. (omega (arith, low, one), alike n low);
    in_between = λ n image low high left. elim (cases_lt (clock a) n) [
      | inl after ↦ last image (subst (λ (m : ℕ). left_at b m image) (omega (arith, after, high, one)) left)
      | inr until ↦ first image (subst (λ (m : ℕ). left_at a m image) (omega (arith, low, until)) ((alike n until image).1 left))
    ];
  }

  -- no moment more
  pub stopped : (a b : D) (P : List ℕ → Type 0) → clock b ≡ clock a → ((n : ℕ) → SameImages (left_at a n) (left_at b n))
      → ((image : List ℕ) → left_at a (clock a) image → P image) → Throughout clock left_at a b P
  stopped a b P none alike first = record {
    past = λ n low. (omega (arith, low, none), alike n);
    in_between = λ n image low high left. first image (subst (λ (m : ℕ). left_at a m image) (omega (arith, low, high, none)) ((alike n image).1 left));
  }

  pub stood_still : (a : D) (P : List ℕ → Type 0) → ((image : List ℕ) → left_at a (clock a) image → P image) → Throughout clock left_at a a P
  stood_still a P first = stopped a a P (omega arith) (λ n image. (λ left. left, λ left. left)) first

  module _ (left_now : D → List ℕ → Type 0) (present : (disk : D) → IsPresent left_now clock left_at disk) where
    -- what a crash may leave at the end
    pub at_the_end : (a b : D) (P : List ℕ → Type 0) → Throughout clock left_at a b P → (image : List ℕ) → left_now b image → P image
    at_the_end a b P run image left = run.in_between (clock b) image ((run.past (clock a) (omega arith)).0) (omega arith) ((present b image).1 left)

    -- no call
    pub unchanged_still : (seen : D → Option (List ℕ)) (a b : D) → seen b ≡ seen a → clock b ≡ clock a → ((n : ℕ) → SameImages (left_at a n) (left_at b n)) → ((image : List ℕ) → left_now b image → left_now a image)
        → IsUnchanged seen left_now clock left_at a b
    unchanged_still seen a b same none alike fewer = record {
      reads = same;
      fewer = fewer;
      meanwhile = stopped a b (left_now a) none alike (λ image left. (present a image).0 left);
    }

  -- two calls
  pub unchanged_twice : (seen : D → Option (List ℕ)) (left_now : D → List ℕ → Type 0) (a b c : D) → IsUnchanged seen left_now clock left_at a b → IsUnchanged seen left_now clock left_at b c → IsUnchanged seen left_now clock left_at a c
  unchanged_twice seen left_now a b c one two = record {
    reads = two.reads ∙ one.reads;
    fewer = λ image left. one.fewer image (two.fewer image left);
    meanwhile = loosened a c _ (left_now a) (followed a b c (left_now a) (left_now b) one.meanwhile two.meanwhile) (λ image. ⊎_elim (λ left. left) (one.fewer image));
  }
