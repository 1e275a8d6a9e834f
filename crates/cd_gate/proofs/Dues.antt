-- The duties of the views after a step of one of them.
use Rattle.std.proofs.Common.{◌≡◌, ◌≢◌, ◌⊎◌, inl, inr, ℕ, Bool, true, false, List, ◌∷◌, set, sym, ap, ◌∙◌, ⊎_elim}
use mathlib.Core.Option.{some, some-injective}
use mathlib.Core.Logic.{dite}
use native.Mathlib.Decide.{ℕ_discrete}
use lib.ListN.{get_elem?}
use Rattle.atomic_table.proofs.Lists.{at_set, set_here, set_else}
use Rattle.cd_legal.specs.State.{has_number}
use Rattle.cd_gate.specs.declared.view.View.{View}
use Rattle.cd_gate.specs.Duties.{more_due, without_number}
use Rattle.cd_gate.specs.Rule.{Dutiful}
use Rattle.cd_gate.proofs.Numbers.{has_this, has_more, has_due, without-was, without-is, without-none, off}
use Rattle.cd_gate.proofs.Views.{in_range, was, will, dues}

module _ {T : Type 0} (views : List (View T)) (id : ℕ) (v w : View T) (at : get_elem? views id ≡ some v) (live : v.live ≡ true) (live' : w.live ≡ true) (due due' : ℕ → Bool) (d : Dutiful due views) where
  here_now : get_elem? (set views id w) id ≡ some w
  here_now = set_here views id w (in_range views id v at)

  abbrev Has : ℕ → Type 0
  Has n = (seat : ℕ) × (u : View T) × (get_elem? (set views id w) seat ≡ some u) × (u.live ≡ true) × (has_number n u.duties ≡ true)

  -- the view has what is due, where it had it before
  whole_by : (n : ℕ) → due n ≡ true → (has_number n v.duties ≡ true → has_number n w.duties ≡ true) → Has n
  whole_by n is own =
      let h = d.whole n is in dite (ℕ_discrete h.0 id)
      (λ e. let same : h.1 ≡ v = some-injective _ _ (sym h.2 ∙ (ap (get_elem? views) e ∙ at)) in
      (id, w, here_now, live', own (ap (λ (z : View T). has_number n z.duties) (sym same) ∙ h.4)))
      (λ ne. (h.0, h.1, set_else views id h.0 w ne ∙ h.2, h.3, h.4))

  -- what is due stays so, and the view's duties are as the step says
  dutiful_by : ((n : ℕ) → has_number n w.duties ≡ true → (due' n ≡ true) × ((has_number n v.duties ≡ true) ⊎ (due n ≡ false)))
      → ((j : ℕ) (u : View T) (n : ℕ) → j ≢ id → get_elem? views j ≡ some u → u.live ≡ true → has_number n u.duties ≡ true → due' n ≡ true)
      → ((n : ℕ) → due' n ≡ true → Has n) → Dutiful due' (set views id w)
  dutiful_by own others whole = record {
    sound = λ j u n ex lx h. ⊎_elim
        (λ (q : (j ≡ id) × (w ≡ u)). (own n (own_duty n u q.1 h)).0)
        (λ (q : (j ≢ id) × (get_elem? views j ≡ some u)). others j u n q.0 q.1 lx h) (at_set views id j w u ex);
    one = λ i j x y n ex ey lx ly hx hy. ⊎_elim
        (λ (p : (i ≡ id) × (w ≡ x)). ⊎_elim
        (λ (q : (j ≡ id) × (w ≡ y)). p.0 ∙ sym q.0)
        (λ (q : (j ≢ id) × (get_elem? views j ≡ some y)). absurd (none_else j y n q.0 q.1 ly hy (own_duty n x p.1 hx))) (at_set views id j w y ey))
        (λ (p : (i ≢ id) × (get_elem? views i ≡ some x)). ⊎_elim
        (λ (q : (j ≡ id) × (w ≡ y)). absurd (none_else i x n p.0 p.1 lx hx (own_duty n y q.1 hy)))
        (λ (q : (j ≢ id) × (get_elem? views j ≡ some y)). d.one i j x y n p.1 q.1 lx ly hx hy) (at_set views id j w y ey))
        (at_set views id i w x ex);
    whole = whole;
  }
    where
      own_duty : (n : ℕ) (u : View T) → w ≡ u → has_number n u.duties ≡ true → has_number n w.duties ≡ true
      own_duty n u is h = ap (λ (z : View T). has_number n z.duties) is ∙ h

      none_else : (j : ℕ) (u : View T) (n : ℕ) → j ≢ id → get_elem? views j ≡ some u → u.live ≡ true → has_number n u.duties ≡ true → has_number n w.duties ≡ true → ⊥
      none_else j u n apart ex lx h mine = ⊎_elim
          (λ q. apart (d.one j id u v n ex at lx live h q))
          (λ q. off (sym q ∙ d.sound j u n ex lx h)) (own n mine).1

  -- nothing of it changes
  pub duties_same : ((n : ℕ) → due' n ≡ due n) → w.duties ≡ v.duties → Dutiful due' (set views id w)
  duties_same same is = dutiful_by
      (λ n h. let h' : has_number n v.duties ≡ true = ap (has_number n) (sym is) ∙ h in (same n ∙ d.sound id v n at live h', inl h'))
      (λ j u n apart ex lx h. same n ∙ d.sound j u n ex lx h)
      (λ n h. whole_by n (sym (same n) ∙ h) (λ q. ap (has_number n) is ∙ q))

  -- the serial m becomes due, or not, and is the view's duty then
  pub duties_given : (m : ℕ) (flag : Bool) → due m ≡ false → due' m ≡ flag → ((n : ℕ) → n ≢ m → due' n ≡ due n) → w.duties ≡ more_due flag m v.duties → Dutiful due' (set views id w)
  duties_given m flag none now same is = dutiful_by
      (λ n h. ⊎_elim
      (λ (q : (flag ≡ true) × (n ≡ m)). (ap due' q.1 ∙ (now ∙ q.0), inr (ap due q.1 ∙ none)))
      (λ (q : has_number n v.duties ≡ true). (stays n (d.sound id v n at live q), inl q)) (has_due flag n m v.duties (ap (has_number n) (sym is) ∙ h)))
      (λ j u n apart ex lx h. stays n (d.sound j u n ex lx h))
      (λ n h. dite (ℕ_discrete n m)
      (λ e. (id, w, here_now, live', ap (has_number n) is ∙ (ap (λ (b : Bool). has_number n (more_due b m v.duties)) (sym now ∙ (ap due' (sym e) ∙ h)) ∙ (ap (λ (z : ℕ). has_number z (m ∷ v.duties)) e ∙ has_this m v.duties))))
      (λ ne. whole_by n (sym (same n ne) ∙ h) (λ q. ap (has_number n) is ∙ has_more flag n m v.duties q)))
    where
      stays : (n : ℕ) → due n ≡ true → due' n ≡ true
      stays n h = same n (λ e. off (sym none ∙ (ap due (sym e) ∙ h))) ∙ h

  -- the view's duty m is done
  pub duties_ended : (m : ℕ) → has_number m v.duties ≡ true → due' m ≡ false → ((n : ℕ) → n ≢ m → due' n ≡ due n) → w.duties ≡ without_number m v.duties → Dutiful due' (set views id w)
  duties_ended m has none same is = dutiful_by
      (λ n h. let h' : has_number n (without_number m v.duties) ≡ true = ap (has_number n) (sym is) ∙ h in
      let old : has_number n v.duties ≡ true = without-was n m v.duties h' in
      (same n (λ e. off (sym (without-none m v.duties) ∙ (ap (λ (z : ℕ). has_number z (without_number m v.duties)) (sym e) ∙ h'))) ∙ d.sound id v n at live old, inl old))
      (λ j u n apart ex lx h. same n (λ e. apart (d.one j id u v n ex at lx live h (ap (λ (z : ℕ). has_number z v.duties) e ∙ has))) ∙ d.sound j u n ex lx h)
      (λ n h. let ne : n ≢ m = (λ e. off (sym none ∙ (ap due' (sym e) ∙ h))) in whole_by n (sym (same n ne) ∙ h) (λ q. ap (has_number n) is ∙ without-is n m v.duties ne q))

-- ---- where a view keeps its own, and where one comes or goes

module _ {T : Type 0} where
  pub duties_stay : (due : ℕ → Bool) (views : List (View T)) (id : ℕ) (v w : View T) → get_elem? views id ≡ some v → dues w ≡ dues v → Dutiful due views → Dutiful due (set views id w)
  duties_stay due views id v w at same d =
      let old = was dues views id v w at same in
      let there = λ (n : ℕ) (x u : View T) (is : dues u ≡ dues x) (h : has_number n u.duties ≡ true).
      (let g : has_number n x.duties ≡ true = ap (λ z. has_number n z.1) (sym is) ∙ h in g) in
      record {
        sound = λ i x n e lx h. let a = old i x e in d.sound i a.0 n a.1 (sym (ap (λ z. z.0) a.2) ∙ lx) (there n a.0 x a.2 h);
        one = λ i j x y n ex ey lx ly hx hy. let a = old i x ex in let b = old j y ey in
            d.one i j a.0 b.0 n a.1 b.1 (sym (ap (λ z. z.0) a.2) ∙ lx) (sym (ap (λ z. z.0) b.2) ∙ ly) (there n a.0 x a.2 hx) (there n b.0 y b.2 hy);
        whole = λ n may. let h = d.whole n may in let a = will dues views id v w at same h.0 h.1 h.2 in (h.0, a.0, a.1, sym (ap (λ z. z.0) a.2) ∙ h.3, there n a.0 h.1 a.2 h.4);
      }
