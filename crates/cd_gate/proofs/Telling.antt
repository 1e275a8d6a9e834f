-- What one pass has seen reaches another by a messenger.
use Rattle.std.proofs.Common.{◌≡◌, ◌≢◌, inl, inr, ℕ, zero, suc, ◌≤◌, Bool, true, false, List, [], ◌∷◌, ◌++◌, set, refl, sym, ap, ◌∙◌, subst, ⊎_elim, arith}
use mathlib.Core.Option.{some, some-ne-none, some-injective}
use mathlib.Core.List.{IsPrefix}
use lib.ListN.{get_elem?}
use Rattle.atomic_table.proofs.Lists.{at_set, set_else, set_again, at_snoc, at_longer}
use Rattle.cd_legal.specs.declared.entry.Signed.{Signed}
use Rattle.cd_legal.specs.Legal.{state_at}
use Rattle.cd_gate.specs.declared.view.View.{View}
use Rattle.cd_gate.specs.Counts.{begins_in}
use Rattle.cd_gate.specs.Duties.{is_due}
use Rattle.cd_gate.specs.Rule.{Fits, Numbered, Dutiful, IsKept}
use Rattle.cd_gate.specs.Steps.{longer, messenger, spent_view, told, compared, with_seat, copy, hand_over, compare}
use Rattle.cd_gate.specs.Words.{Moment}
use Rattle.cd_gate.proofs.Longer.{longer_first, longer_second}
use Rattle.cd_gate.proofs.Dues.{duties_stay}
use Rattle.cd_gate.proofs.Frames.{with_others}
use Rattle.cd_gate.proofs.Seated.{crowd_set, crowd_less, crowd_more}
use Rattle.cd_gate.proofs.Numbers.{off}
use Rattle.cd_gate.proofs.Views.{fits_set, left_same, numbers_stay, holder_stays}
use Rattle.cd_gate.proofs.Seats.{duties_more, dead_fits, longer_fits}

-- both lists begin the longer
olds : (xs ys zs : List Signed) → IsPrefix xs zs → IsPrefix ys zs → (i : ℕ) (l : List Signed) → get_elem? (xs ∷ ys ∷ []) i ≡ some l → IsPrefix l (longer xs ys)
olds xs ys zs p q zero l e = subst (λ k. IsPrefix k (longer xs ys)) (some-injective _ _ e) (longer_first xs ys)
olds xs ys zs p q (suc zero) l e = subst (λ k. IsPrefix k (longer xs ys)) (some-injective _ _ e) (longer_second xs ys zs p q)
olds xs ys zs p q (suc (suc i)) l e = absurd (some-ne-none l (sym e))

module _ {T : Type 0} where
  -- a view that is not live comes
  dead_comes : (log : List Signed) (views : List (View T)) (d : View T) → d.live ≡ false → Numbered log views → Numbered log (views ++ d ∷ [])
  dead_comes log views d dead n =
      let old = λ (j : ℕ) (x : View T) (e : get_elem? (views ++ d ∷ []) j ≡ some x) (lx : x.live ≡ true).
      ⊎_elim (λ (h : get_elem? views j ≡ some x). h) (λ (h : d ≡ x). absurd (off (sym dead ∙ (ap (λ (z : View T). z.live) h ∙ lx)))) (at_snoc views d x j e) in
      record {
        root = n.root;
        root_at = at_longer views (d ∷ []) 0 n.root n.root_at;
        root_is = n.root_is;
        few = n.few;
        apart = λ i j x y ex ey lx ly. n.apart i j x y (old i x ex lx) (old j y ey ly) lx ly;
        below = λ i x ex lx. n.below i x (old i x ex lx) lx;
        gone = λ i g e. let h = n.gone i g e in (record { absent = λ j x ex lx. h.0.absent j x (old j x ex lx) lx; seen = h.0.seen; own = h.0.own; owes = h.0.owes }, h.1);
        known = λ k low. ⊎_elim (λ h. inl (h.0, h.1, at_longer views (d ∷ []) h.0 h.1 h.2, h.3, h.4)) (λ h. inr h) (n.known k low);
        unmade = n.unmade;
      }

  -- one that is not live is not at the seat of a live one
  elsewhere : (views : List (View T)) (other : ℕ) (w : View T) → get_elem? views other ≡ some w → w.live ≡ false → (j : ℕ) (x : View T) → get_elem? views j ≡ some x → x.live ≡ true → j ≢ other
  elsewhere views other w there dead j x e lx = λ is.
      off (sym dead ∙ (ap (λ (z : View T). z.live) (some-injective _ _ (sym there ∙ (ap (get_elem? views) (sym is) ∙ e))) ∙ lx))

  -- a live view after it was spent was there before
  stood : (views : List (View T)) (other : ℕ) (j : ℕ) (x : View T) → get_elem? (set views other spent_view) j ≡ some x → x.live ≡ true → get_elem? views j ≡ some x
  stood views other j x e lx =
      ⊎_elim (λ (t : (j ≡ other) × (spent_view ≡ x)). absurd (off (ap (λ (z : View T). z.live) t.1 ∙ lx))) (λ (t : (j ≢ other) × (get_elem? views j ≡ some x)). t.1) (at_set views other j spent_view x e)

  -- it is spent
  dead_goes : (log : List Signed) (views : List (View T)) (other : ℕ) (w : View T) → get_elem? views other ≡ some w → w.live ≡ false → Numbered log views → Numbered log (set views other spent_view)
  dead_goes log views other w there dead n =
      let old = stood views other in
      let stays = λ (j : ℕ) (x : View T) (e : get_elem? views j ≡ some x) (lx : x.live ≡ true). set_else views other j spent_view (elsewhere views other w there dead j x e lx) ∙ e in
      record {
        root = n.root;
        root_at = stays 0 n.root n.root_at n.root_is.0;
        root_is = n.root_is;
        few = n.few;
        apart = λ i j x y ex ey lx ly. n.apart i j x y (old i x ex lx) (old j y ey ly) lx ly;
        below = λ i x ex lx. n.below i x (old i x ex lx) lx;
        gone = λ i g e. let h = n.gone i g e in (record { absent = λ j x ex lx. h.0.absent j x (old j x ex lx) lx; seen = h.0.seen; own = h.0.own; owes = h.0.owes }, h.1);
        known = λ k low. ⊎_elim (λ h. inl (h.0, h.1, stays h.0 h.1 h.2 h.3, h.3, h.4)) (λ h. inr h) (n.known k low);
        unmade = n.unmade;
      }

  duties_went : (due : ℕ → Bool) (views : List (View T)) (other : ℕ) (w : View T) → get_elem? views other ≡ some w → w.live ≡ false → Dutiful due views → Dutiful due (set views other spent_view)
  duties_went due views other w there dead d =
      let old = stood views other in
      record {
        sound = λ j u n ex lx h. d.sound j u n (old j u ex lx) lx h;
        one = λ i j x y n ex ey lx ly hx hy. d.one i j x y n (old i x ex lx) (old j y ey ly) lx ly hx hy;
        whole = λ n may. let h = d.whole n may in (h.0, h.1, set_else views other h.0 spent_view (elsewhere views other w there dead h.0 h.1 h.2 h.3) ∙ h.2, h.3, h.4);
      }

module _ {T : Type 0} (stands : T → T → List Signed → Type 0) (opening : T) (log : List Signed) (m : Moment T) (r : IsKept stands opening log m) where
  self : (n : ℕ) → n ≤ n
  self n = omega arith

  -- the first seat is that of a live view
  root_elsewhere : (other : ℕ) (w : View T) → w.live ≡ false → get_elem? m.views other ≡ some w → 0 ≢ other
  root_elsewhere other w dead there e = off (sym dead ∙ (ap (λ (z : View T). z.live) (some-injective _ _ (sym there ∙ (ap (get_elem? m.views) (sym e) ∙ r.numbers.root_at))) ∙ r.numbers.root_is.0))

  sends : (id : ℕ) (v : View T) → get_elem? m.views id ≡ some v → IsKept stands opening log (with_seat m (messenger v.seen))
  sends id v at = with_others stands opening log m r m.board (m.views ++ messenger v.seen ∷ [])
      (crowd_more (begins_in log (state_at log).serial) m.views r.numbers.root (messenger v.seen) r.numbers.root_at refl refl r.crowd)
      (λ j u e. ⊎_elim (λ e'. r.each j u e')
      (λ (new : messenger v.seen ≡ u). subst (Fits opening m.turn log r.unsettled r.edge) new (dead_fits opening m.turn log r.unsettled r.edge v.seen (r.each id v at).seen))
      (at_snoc m.views (messenger v.seen) u j e))
      (dead_comes log m.views (messenger v.seen) refl r.numbers)
      (duties_more (is_due (state_at log) r.unsettled) m.views (messenger v.seen) refl r.duties)
      (λ _. refl) (λ more. let t = r.taken more in ((t.0.0, t.0.1, at_longer m.views (messenger v.seen ∷ []) t.0.0 t.0.1 t.0.2, t.0.3), t.1))

  pub copies : (id : ℕ) (v : View T) → get_elem? m.views id ≡ some v → IsKept stands opening log (copy m id v)
  copies id v at = subst (λ (vs : List (View T)). IsKept stands opening log (record m { views = vs ++ messenger v.seen ∷ [] })) (sym (set_again m.views id v at)) (sends id v at)

  pub hands_over : (id : ℕ) (v : View T) (other : ℕ) (w : View T) → get_elem? m.views id ≡ some v → get_elem? m.views other ≡ some w → other ≢ id → w.live ≡ false → IsKept stands opening log (hand_over m id v other w)
  hands_over id v other w at there apart dead =
      let f = r.each id v at in
      let g = r.each other w there in
      let u : View T = told v w in
      let now : List (View T) = set m.views id u in
      let there' : get_elem? now other ≡ some w = set_else m.views id other u apart ∙ there in
      let idle : w.turn ≡ false = no_turn w.turn (λ has. sym dead ∙ (g.holds has).0) in
      with_others stands opening log m r m.board (set now other spent_view)
      (crowd_less (begins_in log (state_at log).serial) now other w there' (root_elsewhere other w dead there) (crowd_set (begins_in log (state_at log).serial) m.views id v u at (self _) (self _) refl r.crowd))
      (fits_set (Fits opening m.turn log r.unsettled r.edge) now other spent_view (dead_fits opening m.turn log r.unsettled r.edge [] (log, refl))
      (λ j x _ e. fits_set (Fits opening m.turn log r.unsettled r.edge) m.views id u
      (longer_fits stands opening log m r v w u f g.seen refl (olds v.seen w.seen log f.seen g.seen)) (λ i y _ at'. r.each i y at') j x e))
      (dead_goes log now other w there' dead (numbers_stay log log m.views id v u at refl refl r.numbers r.numbers.unmade (left_same log m.views)))
      (duties_went (is_due (state_at log) r.unsettled) now other w there' dead (duties_stay (is_due (state_at log) r.unsettled) m.views id v u at refl r.duties))
      (λ _. refl) (λ more. let t = r.taken more in (holder_stays now other w spent_view there' (sym idle) (holder_stays m.views id v u at refl t.0), t.1))
    where
      no_turn : (b : Bool) → (b ≡ true → false ≡ true) → b ≡ false
      no_turn true never = sym (never refl)
      no_turn false never = refl

  pub compares : (id : ℕ) (v : View T) → get_elem? m.views id ≡ some v → IsKept stands opening log (compare m id v)
  compares id v at =
      let f = r.each id v at in
      let w : View T = compared v in
      with_others stands opening log m r m.board (set m.views id w)
      (crowd_set (begins_in log (state_at log).serial) m.views id v w at (self _) (self _) refl r.crowd)
      (fits_set (Fits opening m.turn log r.unsettled r.edge) m.views id w
      record { opened = f.opened; seen = f.seen; older = λ i l e. absurd (some-ne-none l (sym e)); own = f.own; own_seen = f.own_seen; owes = f.owes; holds = f.holds; waits = f.waits; begun = f.begun; lends = f.lends; checks = f.checks } (λ j u _ e. r.each j u e))
      (numbers_stay log log m.views id v w at refl refl r.numbers r.numbers.unmade (left_same log m.views))
      (duties_stay (is_due (state_at log) r.unsettled) m.views id v w at refl r.duties)
      (λ _. refl) (λ more. let t = r.taken more in (holder_stays m.views id v w at refl t.0, t.1))
