-- A pass is split off, and one is joined.
use Rattle.std.proofs.Common.{◌≡◌, ◌≢◌, ◌⊎◌, inl, inr, ℕ, ◌+◌, ◌<◌, ◌≤◌, Bool, true, false, Option, None, List, [], ◌∷◌, ◌++◌, length, set, refl, sym, ap, ◌∙◌, subst, ⊎_elim, arith}
use mathlib.Core.Option.{some, some-ne-none, some-injective}
use mathlib.Core.Logic.{dite}
use mathlib.Core.List.{IsPrefix}
use native.Mathlib.Decide.{ℕ_discrete}
use lib.ListN.{get_elem?}
use Rattle.atomic_table.proofs.Lists.{at_set, set_here, set_else, at_snoc, at_longer, at_last}
use Rattle.cd_legal.specs.declared.entry.Signed.{Signed}
use Rattle.cd_legal.specs.declared.limits.TheConstants.{MAX_PASSES}
use Rattle.cd_legal.specs.Entry.{mine}
use Rattle.cd_legal.specs.State.{has_number}
use Rattle.cd_legal.specs.Legal.{state_at}
use Rattle.cd_legal.specs.Owing.{owes_nothing}
use Rattle.cd_legal.proofs.Logs.{prefix_trans}
use Rattle.cd_legal.proofs.Owing.{owes-none}
use Rattle.cd_gate.specs.declared.view.View.{View}
use Rattle.cd_gate.specs.declared.view.Gone.{Gone}
use Rattle.cd_gate.specs.Counts.{begins_in}
use Rattle.cd_gate.specs.Duties.{is_due}
use Rattle.cd_gate.specs.Rule.{Fits, HasLeft, Numbered, Dutiful, IsKept}
use Rattle.cd_gate.specs.Steps.{longer, splitting, split_off, gone_of, joining, messenger, spent_view, split, join}
use Rattle.cd_gate.specs.Words.{Moment, owed}
use Rattle.cd_gate.proofs.Longer.{longer_first, longer_whole, between, none_before, core_between}
use Rattle.cd_gate.proofs.Dues.{duties_stay}
use Rattle.cd_gate.proofs.Seated.{crowd_set, crowd_less, crowd_split}
use Rattle.cd_gate.proofs.Frames.{none_some, with_others}
use Rattle.cd_gate.proofs.Numbers.{off}
use Rattle.cd_gate.proofs.Views.{in_range, at_new, fits_set, was, will, face, holder_stays}

module _ {T : Type 0} where
  -- number 0 has the first seat
  root_seat : (log : List Signed) (views : List (View T)) (id : ℕ) (v : View T) (n : Numbered log views) → get_elem? views id ≡ some v → v.live ≡ true → v.number ≡ 0 → (id ≡ 0) × (v ≡ n.root)
  root_seat log views id v n at live number =
      let here = n.apart id 0 v n.root at n.root_at live n.root_is.0 (number ∙ sym n.root_is.1) in
      (here, some-injective _ _ (sym at ∙ (ap (get_elem? views) here ∙ n.root_at)))

  -- ---- one pass more

  module _ (log : List Signed) (views : List (View T)) (id : ℕ) (v : View T) (at : get_elem? views id ≡ some v) (live : v.live ≡ true) (number : v.number ≡ 0) (n : Numbered log views) where
    abbrev now : List (View T)
    now = set views id (splitting v)

    root : (id ≡ 0) × (v ≡ n.root)
    root = root_seat log views id v n at live number

    made : v.made ≡ n.root.made
    made = ap (λ (z : View T). z.made) root.1

    -- an old live view has an old number
    low : (j : ℕ) (x : View T) → get_elem? now j ≡ some x → x.live ≡ true → x.number < v.made
    low j x e lx =
        let a = was face views id v (splitting v) at refl j x e in
        let b = n.below j a.0 a.1 (sym (ap (λ z. z.0) a.2) ∙ lx) in
        let c : x.number ≡ a.0.number = ap (λ z. z.1) a.2 in
        let d = made in omega arith

    -- the new one has not
    mixed : (j : ℕ) (x y : View T) → get_elem? now j ≡ some x → x.live ≡ true → split_off v ≡ y → x.number ≡ y.number → ⊥
    mixed j x y e lx new same = let a = low j x e lx in let b : v.made ≡ y.number = ap (λ (z : View T). z.number) new in omega arith

    abbrev Known : ℕ → Type 0
    Known k = ((seat : ℕ) × (u : View T) × (get_elem? (now ++ split_off v ∷ []) seat ≡ some u) × (u.live ≡ true) × (u.number ≡ k)) ⊎ ((i : ℕ) × (g : Gone) × (get_elem? v.joined i ≡ some g) × (g.number ≡ k))

    known_now : (k : ℕ) → k < v.made + 1 → Known k
    known_now k le = dite (ℕ_discrete k v.made)
        (λ is. inl (length now, split_off v, at_last now (split_off v) (length now) refl, refl, sym is))
        (λ ne. ⊎_elim
        (λ h. let a = will face views id v (splitting v) at refl h.0 h.1 h.2 in
        inl (h.0, a.0, at_longer now (split_off v ∷ []) h.0 a.0 a.1, sym (ap (λ z. z.0) a.2) ∙ h.3, sym (ap (λ z. z.1) a.2) ∙ h.4))
        (λ h. inr (h.0, h.1, ap (λ (z : View T). get_elem? z.joined h.0) root.1 ∙ h.2, h.3))
        (n.known k (let d = made in below k v.made n.root.made le ne d)))
      where
        below : (k a b : ℕ) → k < a + 1 → k ≢ a → a ≡ b → k < b
        below k a b le ne is = grind arith

    split_numbers : v.made < MAX_PASSES → Numbered log (now ++ split_off v ∷ [])
    split_numbers room = record {
      root = splitting v;
      root_at = at_longer now (split_off v ∷ []) 0 (splitting v) (ap (get_elem? now) (sym root.0) ∙ set_here views id (splitting v) (in_range views id v at));
      root_is = (live, number);
      few = one_more v.made MAX_PASSES room;
      apart = λ i j x y ex ey lx ly same. ⊎_elim
          (λ ex'. ⊎_elim
          (λ ey'. let a = was face views id v (splitting v) at refl i x ex' in let b = was face views id v (splitting v) at refl j y ey' in
          n.apart i j a.0 b.0 a.1 b.1 (sym (ap (λ z. z.0) a.2) ∙ lx) (sym (ap (λ z. z.0) b.2) ∙ ly) (sym (ap (λ z. z.1) a.2) ∙ (same ∙ ap (λ z. z.1) b.2)))
          (λ (t : (j ≡ length now) × (split_off v ≡ y)). absurd (mixed i x y ex' lx t.1 same))
          (at_new now (split_off v) y j ey))
          (λ (s : (i ≡ length now) × (split_off v ≡ x)). ⊎_elim
          (λ ey'. absurd (mixed j y x ey' ly s.1 (sym same)))
          (λ (t : (j ≡ length now) × (split_off v ≡ y)). s.0 ∙ sym t.0)
          (at_new now (split_off v) y j ey))
          (at_new now (split_off v) x i ex);
      below = λ i x ex lx. ⊎_elim
          (λ ex'. let a = low i x ex' lx in omega arith)
          (λ (s : (i ≡ length now) × (split_off v ≡ x)). let b : v.made ≡ x.number = ap (λ (z : View T). z.number) s.1 in omega arith) (at_new now (split_off v) x i ex);
      gone = λ i g eg. let left = n.gone i g (ap (λ (z : View T). get_elem? z.joined i) (sym root.1) ∙ eg) in (
        record {
          absent = λ j x e lx. ⊎_elim
              (λ e'. let a = was face views id v (splitting v) at refl j x e' in λ same. left.0.absent j a.0 a.1 (sym (ap (λ z. z.0) a.2) ∙ lx) (sym (ap (λ z. z.1) a.2) ∙ same))
              (λ (s : (j ≡ length now) × (split_off v ≡ x)). λ same. let b : v.made ≡ x.number = ap (λ (z : View T). z.number) s.1 in let c = left.1 in let d = made in absurd (omega arith)) (at_new now (split_off v) x j e);
          seen = left.0.seen;
          own = left.0.own;
          owes = left.0.owes;
        },
        (let c = left.1 in let d = made in omega arith),
      );
      known = known_now;
      unmade = λ k le. n.unmade k (let d = made in omega arith);
    }
      where
        one_more : (a b : ℕ) → a < b → a + 1 ≤ b
        one_more a b low = omega arith

  -- a view without duties more
  pub duties_more : (due : ℕ → Bool) (views : List (View T)) (w : View T) → w.duties ≡ [] → Dutiful due views → Dutiful due (views ++ w ∷ [])
  duties_more due views w none d =
      let never = λ (u : View T) (n : ℕ) (is : w ≡ u) (h : has_number n u.duties ≡ true). (let e : false ≡ true = ap (has_number n) (sym none) ∙ (ap (λ (z : View T). has_number n z.duties) is ∙ h) in off e) in
      record {
        sound = λ j u n ex lx h. ⊎_elim (λ e. d.sound j u n e lx h) (λ is. absurd (never u n is h)) (at_snoc views w u j ex);
        one = λ i j x y n ex ey lx ly hx hy. ⊎_elim
            (λ e. ⊎_elim (λ f. d.one i j x y n e f lx ly hx hy) (λ is. absurd (never y n is hy)) (at_snoc views w y j ey))
            (λ is. absurd (never x n is hx)) (at_snoc views w x i ex);
        whole = λ n may. let h = d.whole n may in (h.0, h.1, at_longer views (w ∷ []) h.0 h.1 h.2, h.3, h.4);
      }

  -- a view without duties is spent
  pub duties_less : (due : ℕ → Bool) (views : List (View T)) (other : ℕ) (w : View T) → get_elem? views other ≡ some w → w.duties ≡ [] → Dutiful due views → Dutiful due (set views other spent_view)
  duties_less due views other w there none d =
      let old = λ (j : ℕ) (x : View T) (e : get_elem? (set views other spent_view) j ≡ some x) (lx : x.live ≡ true).
      (let h : get_elem? views j ≡ some x = ⊎_elim (λ (t : (j ≡ other) × (spent_view ≡ x)). absurd (off (ap (λ (z : View T). z.live) t.1 ∙ lx))) (λ (t : (j ≢ other) × (get_elem? views j ≡ some x)). t.1) (at_set views other j spent_view x e) in h) in
      record {
        sound = λ j u n ex lx h. d.sound j u n (old j u ex lx) lx h;
        one = λ i j x y n ex ey lx ly hx hy. d.one i j x y n (old i x ex lx) (old j y ey ly) lx ly hx hy;
        whole = λ n may. let h = d.whole n may in (
          h.0,
          h.1,
          set_else views other h.0 spent_view (λ is.
              let same : h.1 ≡ w = some-injective _ _ (sym h.2 ∙ (ap (get_elem? views) is ∙ there)) in
              let e : false ≡ true = ap (has_number n) (sym none) ∙ (ap (λ (z : View T). has_number n z.duties) (sym same) ∙ h.4) in off e) ∙ h.2,
          h.3,
          h.4,
        );
      }

  -- ---- one pass less

  module _ (log : List Signed) (views : List (View T)) (id : ℕ) (v : View T) (other : ℕ) (w : View T) (at : get_elem? views id ≡ some v) (there : get_elem? views other ≡ some w) (apart : other ≢ id)
      (live : v.live ≡ true) (number : v.number ≡ 0) (live' : w.live ≡ true) (n : Numbered log views) where
    abbrev joined_views : List (View T)
    joined_views = set views id (joining v w)

    root_is : (id ≡ 0) × (v ≡ n.root)
    root_is = root_seat log views id v n at live number

    count : v.made ≡ n.root.made
    count = ap (λ (z : View T). z.made) root_is.1

    -- a live view after the join is at a seat other than the spent one
    live_was : (j : ℕ) (x : View T) → get_elem? (set joined_views other spent_view) j ≡ some x → x.live ≡ true → (j ≢ other) × (get_elem? joined_views j ≡ some x)
    live_was j x e lx = ⊎_elim
        (λ (t : (j ≡ other) × (spent_view ≡ x)). absurd (off (ap (λ (z : View T). z.live) t.1 ∙ lx)))
        (λ (t : (j ≢ other) × (get_elem? joined_views j ≡ some x)). t) (at_set joined_views other j spent_view x e)

    old : (j : ℕ) (x : View T) → get_elem? (set joined_views other spent_view) j ≡ some x → x.live ≡ true → (y : View T) × (get_elem? views j ≡ some y) × (y.live ≡ true) × (y.number ≡ x.number)
    old j x e lx =
        let a = was face views id v (joining v w) at refl j x (live_was j x e lx).1 in
        (a.0, a.1, sym (ap (λ z. z.0) a.2) ∙ lx, sym (ap (λ z. z.1) a.2))

    abbrev Known' : ℕ → Type 0
    Known' k = ((seat : ℕ) × (u : View T) × (get_elem? (set joined_views other spent_view) seat ≡ some u) × (u.live ≡ true) × (u.number ≡ k)) ⊎ ((i : ℕ) × (g : Gone) × (get_elem? (v.joined ++ gone_of w ∷ []) i ≡ some g) × (g.number ≡ k))

    known_then : (k : ℕ) → k < v.made → Known' k
    known_then k le = ⊎_elim
        (λ h. dite (ℕ_discrete h.0 other)
        (λ is. let same : h.1 ≡ w = some-injective _ _ (sym h.2 ∙ (ap (get_elem? views) is ∙ there)) in
        inr (length v.joined, gone_of w, at_last v.joined (gone_of w) (length v.joined) refl, ap (λ (z : View T). z.number) (sym same) ∙ h.4))
        (λ ne. let a = will face views id v (joining v w) at refl h.0 h.1 h.2 in
        inl (h.0, a.0, set_else joined_views other h.0 spent_view ne ∙ a.1, sym (ap (λ z. z.0) a.2) ∙ h.3, sym (ap (λ z. z.1) a.2) ∙ h.4)))
        (λ h. inr (h.0, h.1, at_longer v.joined (gone_of w ∷ []) h.0 h.1 (ap (λ (z : View T). get_elem? z.joined h.0) root_is.1 ∙ h.2), h.3))
        (n.known k (let d = count in omega arith))

    -- no live view has its number
    absent_now : (j : ℕ) (x : View T) → get_elem? (set joined_views other spent_view) j ≡ some x → x.live ≡ true → x.number ≢ w.number
    absent_now j x e lx = let a = old j x e lx in λ same. (live_was j x e lx).0 (n.apart j other a.0 w a.1 there a.2 live' (a.3 ∙ same))

    join_numbers : HasLeft log (set joined_views other spent_view) (gone_of w) → Numbered log (set joined_views other spent_view)
    join_numbers left_now = record {
      root = joining v w;
      root_at = set_else joined_views other 0 spent_view (λ e. apart (sym e ∙ sym root_is.0)) ∙ (ap (get_elem? joined_views) (sym root_is.0) ∙ set_here views id (joining v w) (in_range views id v at));
      root_is = (live, number);
      few = subst (λ (z : ℕ). z ≤ MAX_PASSES) (sym count) n.few;
      apart = λ i j x y ex ey lx ly same. let a = old i x ex lx in let b = old j y ey ly in n.apart i j a.0 b.0 a.1 b.1 a.2 b.2 (a.3 ∙ (same ∙ sym b.3));
      below = λ i x ex lx. let a = old i x ex lx in let b = n.below i a.0 a.1 a.2 in let c = a.3 in let d = count in omega arith;
      gone = λ i g eg. ⊎_elim
          (λ eg'. let left = n.gone i g (ap (λ (z : View T). get_elem? z.joined i) (sym root_is.1) ∙ eg') in (
            record {
              absent = λ j x e lx. let a = old j x e lx in λ same. left.0.absent j a.0 a.1 a.2 (a.3 ∙ same);
              seen = left.0.seen;
              own = left.0.own;
              owes = left.0.owes;
            },
            (let c = left.1 in let d = count in omega arith),
          ))
          (λ (new : gone_of w ≡ g). subst (λ (z : Gone). HasLeft log (set joined_views other spent_view) z × (z.number < v.made)) new
          (left_now, (let c = n.below other w there live' in let d = count in omega arith)))
          (at_snoc v.joined (gone_of w) g i eg);
      known = known_then;
      unmade = λ k le. n.unmade k (let d = count in omega arith);
    }

-- ---- the steps

-- what fits a view that is not live
pub dead_fits : {T : Type 0} (opening : T) (turn : ℕ) (log : List Signed) (unsettled : Option ℕ) (edge : ℕ) (seen : List Signed) → IsPrefix seen log → Fits opening turn log unsettled edge (messenger seen)
dead_fits opening turn log unsettled edge seen p = record {
  opened = λ l. absurd (off l);
  seen = p;
  older = λ i l e. absurd (some-ne-none l (sym e));
  own = λ l. absurd (off l);
  own_seen = λ l. absurd (off l);
  owes = λ l. absurd (off l);
  holds = λ l. absurd (off l);
  waits = λ _. (refl, refl);
  begun = λ l is. absurd (none_some None l refl is);
  lends = λ l is on. absurd (none_some None l refl is);
  checks = λ l. absurd (off l);
}

module _ {T : Type 0} (stands : T → T → List Signed → Type 0) (opening : T) (log : List Signed) (m : Moment T) (r : IsKept stands opening log m) where
  pub splits : (id : ℕ) (v : View T) → get_elem? m.views id ≡ some v → v.live ≡ true → v.number ≡ 0 → v.made < MAX_PASSES → IsKept stands opening log (split m id v)
  splits id v at live number room =
      let mine_fit = r.each id v at in
      let root' = root_seat log m.views id v r.numbers at live number in
      let none_yet : mine v.made log ≡ [] = r.numbers.unmade v.made (let d : v.made ≡ r.numbers.root.made = ap (λ (z : View T). z.made) root'.1 in omega arith) in
      let now' : List (View T) = set m.views id (splitting v) in
      with_others stands opening log m r m.board (now' ++ split_off v ∷ [])
      (crowd_split (begins_in log (state_at log).serial) m.views id v at root'.0 r.crowd)
      (λ j u e. ⊎_elim
      (λ e'. fits_set (Fits opening m.turn log r.unsettled r.edge) m.views id (splitting v)
      record { opened = mine_fit.opened; seen = mine_fit.seen; older = mine_fit.older; own = mine_fit.own; own_seen = mine_fit.own_seen; owes = mine_fit.owes; holds = mine_fit.holds; waits = mine_fit.waits; begun = mine_fit.begun; lends = mine_fit.lends; checks = mine_fit.checks }
      (λ i x _ at'. r.each i x at') j u e')
      (λ (new : split_off v ≡ u). subst (Fits opening m.turn log r.unsettled r.edge) new record {
        opened = λ _. mine_fit.opened live;
        seen = mine_fit.seen;
        older = λ i l e'. absurd (some-ne-none l (sym e'));
        own = λ _. none_yet;
        own_seen = λ _. none_before v.made v.seen log mine_fit.seen none_yet;
        owes = λ _. owes-none v.made log none_yet;
        holds = λ has. absurd (off has);
        waits = λ _. (refl, refl);
        begun = λ l is. absurd (none_some None l refl is);
        lends = λ l is on. absurd (none_some None l refl is);
        checks = λ h. absurd (off h);
      })
      (at_snoc now' (split_off v) u j e))
      (split_numbers log m.views id v at live number r.numbers room)
      (duties_more (is_due (state_at log) r.unsettled) now' (split_off v) refl (duties_stay (is_due (state_at log) r.unsettled) m.views id v (splitting v) at refl r.duties))
      (λ _. refl) (λ more. let t = r.taken more in let h = holder_stays m.views id v (splitting v) at refl t.0 in ((h.0, h.1, at_longer now' (split_off v ∷ []) h.0 h.1 h.2, h.3), t.1))

  -- a view whose seen list is longer
  pub longer_fits : (v w : View T) (u : View T) → Fits opening m.turn log r.unsettled r.edge v → IsPrefix w.seen log → u ≡ record v { seen = longer v.seen w.seen; older = u.older; made = u.made; joined = u.joined }
      → ((i : ℕ) (l : List Signed) → get_elem? u.older i ≡ some l → IsPrefix l (longer v.seen w.seen)) → Fits opening m.turn log r.unsettled r.edge u
  longer_fits v w u f seen is older = subst (Fits opening m.turn log r.unsettled r.edge) (sym is) record {
    opened = f.opened;
    seen = longer_whole v.seen w.seen log f.seen seen;
    older = older;
    own = f.own;
    own_seen = λ l. between v.number v.seen (longer v.seen w.seen) log v.mine (longer_first v.seen w.seen) (longer_whole v.seen w.seen log f.seen seen) (f.own_seen l) (f.own l);
    owes = f.owes;
    holds = λ has. let h = f.holds has in (h.0, h.1, core_between v.seen (longer v.seen w.seen) log (longer_first v.seen w.seen) (longer_whole v.seen w.seen log f.seen seen) h.2, h.3, h.4);
    waits = f.waits;
    begun = f.begun;
    lends = f.lends;
    checks = f.checks;
  }

  pub joins : (id : ℕ) (v : View T) (other : ℕ) (w : View T) → get_elem? m.views id ≡ some v → get_elem? m.views other ≡ some w → other ≢ id → v.live ≡ true → v.number ≡ 0 → w.live ≡ true → w.turn ≡ false → owed w ≡ owes_nothing → w.duties ≡ []
      → IsKept stands opening log (join m id v other w)
  joins id v other w at there apart live number live' idle free none =
      let f = r.each id v at in
      let g = r.each other w there in
      let now' : List (View T) = set m.views id (joining v w) in
      let there' : get_elem? now' other ≡ some w = set_else m.views id other (joining v w) apart ∙ there in
      let left : HasLeft log (set now' other spent_view) (gone_of w) = record {
        absent = absent_now log m.views id v other w at there apart live number live' r.numbers;
        seen = g.seen;
        own = g.own live';
        owes = g.owes live' ∙ free;
      } in
      with_others stands opening log m r m.board (set now' other spent_view)
      (crowd_less (begins_in log (state_at log).serial) now' other w there' (λ e. apart (sym e ∙ sym (root_seat log m.views id v r.numbers at live number).0)) (crowd_set (begins_in log (state_at log).serial) m.views id v (joining v w) at (self _) (self _) refl r.crowd))
      (fits_set (Fits opening m.turn log r.unsettled r.edge) now' other spent_view (dead_fits opening m.turn log r.unsettled r.edge [] (log, refl))
      (λ j u _ e. fits_set (Fits opening m.turn log r.unsettled r.edge) m.views id (joining v w)
      (longer_fits v w (joining v w) f g.seen refl (λ i l e'. prefix_trans l v.seen (longer v.seen w.seen) (f.older i l e') (longer_first v.seen w.seen)))
      (λ i x _ at'. r.each i x at') j u e))
      (join_numbers log m.views id v other w at there apart live number live' r.numbers left)
      (duties_less (is_due (state_at log) r.unsettled) now' other w there' none (duties_stay (is_due (state_at log) r.unsettled) m.views id v (joining v w) at refl r.duties))
      (λ _. refl) (λ more. let t = r.taken more in (holder_stays now' other w spent_view there' (sym idle) (holder_stays m.views id v (joining v w) at refl t.0), t.1))
    where
      self : (n : ℕ) → n ≤ n
      self n = omega arith
