-- What stays of the rule where one view changes, and where a view that is not live comes or goes.
use Rattle.std.proofs.Common.{◌≡◌, ◌≢◌, ◌⊎◌, inl, inr, ℕ, zero, suc, ◌<◌, ◌≤◌, Bool, true, List, [], ◌∷◌, ◌++◌, length, set, refl, sym, ap, ◌∙◌, subst, ⊎_elim, arith}
use mathlib.Core.Option.{some, some-ne-none, some-injective}
use mathlib.Core.Logic.{dite}
use mathlib.Core.List.{IsPrefix}
use native.Mathlib.Decide.{ℕ_discrete}
use lib.ListN.{get_elem?}
use Rattle.atomic_table.proofs.Lists.{at_set, set_here, set_else}
use Rattle.cd_legal.specs.declared.entry.Signed.{Signed}
use Rattle.cd_legal.specs.declared.limits.TheConstants.{MAX_PASSES}
use Rattle.cd_legal.specs.Entry.{mine}
use Rattle.cd_legal.specs.Owing.{owes_of, owes_nothing}
use Rattle.cd_gate.specs.declared.view.View.{View}
use Rattle.cd_gate.specs.declared.view.Gone.{Gone}
use Rattle.cd_gate.specs.Rule.{Numbered, HasLeft}

pub in_range : {A : Type 0} (l : List A) (i : ℕ) (a : A) → get_elem? l i ≡ some a → i < length l
in_range [] i a e = absurd (some-ne-none a (sym e))
in_range (x ∷ xs) zero a e = omega arith
in_range (x ∷ xs) (suc i) a e = let h = in_range xs i a e in omega arith

pub at_new : {A : Type 0} (l : List A) (a b : A) (j : ℕ) → get_elem? (l ++ a ∷ []) j ≡ some b → (get_elem? l j ≡ some b) ⊎ ((j ≡ length l) × (a ≡ b))
at_new [] a b zero e = inr (refl, some-injective a b e)
at_new [] a b (suc j) e = absurd (some-ne-none b (sym e))
at_new (x ∷ xs) a b zero e = inl e
at_new (x ∷ xs) a b (suc j) e = ⊎_elim (λ t. inl t) (λ t. inr ((let h = t.0 in omega arith), t.1)) (at_new xs a b j e)

module _ {T : Type 0} where
  -- each view but one is as it was, and fits what is now
  pub fits_set : (P : View T → Type 0) (views : List (View T)) (id : ℕ) (w : View T) → P w → ((j : ℕ) (u : View T) → j ≢ id → get_elem? views j ≡ some u → P u)
      → (j : ℕ) (u : View T) → get_elem? (set views id w) j ≡ some u → P u
  fits_set P views id w mine others j u e =
      ⊎_elim (λ (t : (j ≡ id) × (w ≡ u)). subst P t.1 mine) (λ (t : (j ≢ id) × (get_elem? views j ≡ some u)). others j u t.0 t.1) (at_set views id j w u e)

  -- the part f of a view, in the seat's view before the change
  abbrev pub Was : {B : Type 0} → (View T → B) → List (View T) → ℕ → View T → Type 0
  Was f views j u = (x : View T) × (get_elem? views j ≡ some x) × (f u ≡ f x)

  pub was : {B : Type 0} (f : View T → B) (views : List (View T)) (id : ℕ) (v w : View T) → get_elem? views id ≡ some v → f w ≡ f v → (j : ℕ) (u : View T) → get_elem? (set views id w) j ≡ some u → Was f views j u
  was f views id v w at same j u e =
      ⊎_elim (λ (t : (j ≡ id) × (w ≡ u)). (v, ap (get_elem? views) t.0 ∙ at, ap f (sym t.1) ∙ same))
      (λ (t : (j ≢ id) × (get_elem? views j ≡ some u)). (u, t.1, refl)) (at_set views id j w u e)

  -- and in its view after it
  pub will : {B : Type 0} (f : View T → B) (views : List (View T)) (id : ℕ) (v w : View T) → get_elem? views id ≡ some v → f w ≡ f v → (j : ℕ) (x : View T) → get_elem? views j ≡ some x → Was f (set views id w) j x
  will f views id v w at same j x e = dite (ℕ_discrete j id)
      (λ here. let x_is : x ≡ v = some-injective _ _ (sym e ∙ (ap (get_elem? views) here ∙ at)) in
      (w, ap (get_elem? (set views id w)) here ∙ set_here views id w (in_range views id v at), ap f x_is ∙ sym same))
      (λ ne. (x, set_else views id j w ne ∙ e, refl))

  -- whether it is live, and its number
  abbrev pub face : View T → Bool × ℕ
  face v = (v.live, v.number)

  -- how many numbers it has made, and what was joined into it
  abbrev pub makes : View T → ℕ × List Gone
  makes v = (v.made, v.joined)

  -- whether it is live, and its duties
  abbrev pub dues : View T → Bool × List ℕ
  dues v = (v.live, v.duties)

  pub root_after : (log : List Signed) (views : List (View T)) (id : ℕ) (v w : View T) (n : Numbered log views) → get_elem? views id ≡ some v → face w ≡ face v → makes w ≡ makes v
      → (r : View T) × (get_elem? (set views id w) 0 ≡ some r) × ((r.live ≡ true) × (r.number ≡ 0)) × (makes r ≡ makes n.root)
  root_after log views id v w n at same made = dite (ℕ_discrete 0 id)
      (λ e. let is : v ≡ n.root = some-injective _ _ (sym at ∙ (ap (get_elem? views) (sym e) ∙ n.root_at)) in (
        w,
        ap (get_elem? (set views id w)) e ∙ set_here views id w (in_range views id v at),
        (ap (λ z. z.0) same ∙ (ap (λ (z : View T). z.live) is ∙ n.root_is.0), ap (λ z. z.1) same ∙ (ap (λ (z : View T). z.number) is ∙ n.root_is.1)),
        made ∙ ap makes is,
      ))
      (λ ne. (n.root, set_else views id 0 w ne ∙ n.root_at, n.root_is, refl))

  -- what a longer history keeps of a joined pass
  abbrev pub LeftStays : List Signed → List (View T) → List Signed → Type 0
  LeftStays log views log' = (g : Gone) → HasLeft log views g → IsPrefix g.seen log' × (mine g.number log' ≡ g.mine) × (owes_of g.number log' ≡ owes_nothing)

  pub left_same : (log : List Signed) (views : List (View T)) → LeftStays log views log
  left_same log views g left = (left.seen, left.own, left.owes)

  -- the numbers stay where a view keeps its own
  pub numbers_stay : (log log' : List Signed) (views : List (View T)) (id : ℕ) (v w : View T) → get_elem? views id ≡ some v → face w ≡ face v → makes w ≡ makes v
      → (n : Numbered log views) → ((k : ℕ) → n.root.made ≤ k → mine k log' ≡ []) → LeftStays log views log' → Numbered log' (set views id w)
  numbers_stay log log' views id v w at same made n none stays =
      let r = root_after log views id v w n at same made in
      let count : r.0.made ≡ n.root.made = ap (λ z. z.0) r.3 in
      let left_is : r.0.joined ≡ n.root.joined = ap (λ z. z.1) r.3 in
      record {
        root = r.0;
        root_at = r.1;
        root_is = r.2;
        few = subst (λ (z : ℕ). z ≤ MAX_PASSES) (sym count) n.few;
        apart = λ i j x y ex ey lx ly e. let a = was face views id v w at same i x ex in let b = was face views id v w at same j y ey in
            n.apart i j a.0 b.0 a.1 b.1 (sym (ap (λ z. z.0) a.2) ∙ lx) (sym (ap (λ z. z.0) b.2) ∙ ly) (sym (ap (λ z. z.1) a.2) ∙ (e ∙ ap (λ z. z.1) b.2));
        below = λ i x ex lx. let a = was face views id v w at same i x ex in let low = n.below i a.0 a.1 (sym (ap (λ z. z.0) a.2) ∙ lx) in
            subst (λ (z : ℕ × ℕ). z.0 < z.1) (λ k. (sym (ap (λ z. z.1) a.2) k, sym count k)) low;
        gone = λ i g eg. let left = n.gone i g (subst (λ (l : List Gone). get_elem? l i ≡ some g) left_is eg) in let now = stays g left.0 in (
          record {
            absent = λ j x e lx. let a = was face views id v w at same j x e in λ is. left.0.absent j a.0 a.1 (sym (ap (λ z. z.0) a.2) ∙ lx) (sym (ap (λ z. z.1) a.2) ∙ is);
            seen = now.0;
            own = now.1;
            owes = now.2;
          },
          subst (λ (z : ℕ). g.number < z) (sym count) left.1,
        );
        known = λ k low. ⊎_elim
            (λ h. let a = will face views id v w at same h.0 h.1 h.2 in inl (h.0, a.0, a.1, sym (ap (λ z. z.0) a.2) ∙ h.3, sym (ap (λ z. z.1) a.2) ∙ h.4))
            (λ h. inr (h.0, h.1, subst (λ (l : List Gone). get_elem? l h.0 ≡ some h.1) (sym left_is) h.2, h.3)) (n.known k (subst (λ (z : ℕ). k < z) count low));
        unmade = λ k le. none k (subst (λ (z : ℕ). z ≤ k) count le);
      }

  -- the seat that has the turn has it still, where its view does and the others are as they were
  abbrev pub Holder : List (View T) → Type 0
  Holder views = (seat : ℕ) × (v : View T) × (get_elem? views seat ≡ some v) × (v.turn ≡ true)

  pub holder_stays : (views : List (View T)) (id : ℕ) (v w : View T) → get_elem? views id ≡ some v → w.turn ≡ v.turn → Holder views → Holder (set views id w)
  holder_stays views id v w at same h = let a = will (λ (z : View T). z.turn) views id v w at same h.0 h.1 h.2 in (h.0, a.0, a.1, sym a.2 ∙ h.3)
