-- Rows of passes.
use Rattle.std.proofs.Common.{◌≡◌, ◌≢◌, ℕ, zero, suc, ◌+◌, false, List, [], ◌∷◌, ◌++◌, length, set, refl, sym, ap, ◌∙◌, subst, ⊎_elim, arith, length-append, length-set}
use mathlib.Core.Option.{some, some-ne-none, some-injective}
use lib.ListN.{get_elem?}
use Rattle.atomic_table.specs.Seated.{TableId}
use Rattle.atomic_table.proofs.Lists.{at_set, set_here, at_longer}
use Rattle.cd_legal.specs.Owing.{owes_nothing}
use Rattle.cd_gate.specs.declared.view.View.{View}
use Rattle.cd_gate.specs.declared.pass.Pass.{Pass}
use Rattle.cd_gate.specs.Words.{owed}
use Rattle.cd_gate.specs.Steps.{first_view, splitting, split_off}
use Rattle.cd_gate.specs.Passes.{view, IsIdle}
use Rattle.cd_gate.specs.Ends.{IsRow, AreNew}
use Rattle.cd_gate.proofs.Views.{at_new}

module _ {T : Type 0} where
  only_one : (p q : Pass T) (i : ℕ) → get_elem? (p ∷ []) i ≡ some q → (i ≡ 0) × (p ≡ q)
  only_one p q zero e = (refl, some-injective _ _ e)
  only_one p q (suc i) e = absurd (some-ne-none q (sym e))

  -- a view that has seen and made nothing, and owes nothing
  abbrev NewView : View T → Type 0
  NewView v = (v.seen ≡ []) × (v.mine ≡ []) × ((owed v ≡ owes_nothing) × (v.duties ≡ []))

  pub row_one : (z : TableId) (o : T) (p : Pass T) → IsIdle z o p → view p ≡ first_view o → IsRow z o (p ∷ []) × AreNew (p ∷ [])
  row_one z o p idle is = (
    record {
      some_pass = omega arith;
      each = λ i q e. let h = only_one p q i e in subst (λ (t : ℕ × Pass T). IsIdle z o t.1 × ((view t.1).number ≡ t.0)) (λ k. (sym h.0 k, h.1 k)) (idle, ap (λ (v : View T). v.number) is);
      root = λ q e. let h = only_one p q 0 e in subst (λ (t : Pass T). ((view t).made ≡ 1) × ((view t).joined ≡ [])) h.1 (ap (λ (v : View T). v.made) is, ap (λ (v : View T). v.joined) is);
    },
    record {
      each = λ i q e. let h = only_one p q i e in subst (λ (t : Pass T). NewView (view t)) h.1 (subst NewView (sym is) (refl, refl, (refl, refl)));
      unchecked = λ i q e. let h = only_one p q i e in subst (λ (t : Pass T). (view t).checked ≡ false) h.1 (ap (λ (v : View T). v.checked) is);
    },
  )

  -- one pass more
  pub row_more : (z : TableId) (o : T) (passes : List (Pass T)) (f f' p : Pass T) → get_elem? passes 0 ≡ some f → IsIdle z o f' → view f' ≡ splitting (view f) → IsIdle z o p → view p ≡ split_off (view f) → IsRow z o passes → AreNew passes
      → IsRow z o (set passes 0 f' ++ p ∷ []) × AreNew (set passes 0 f' ++ p ∷ [])
  row_more z o passes f f' p at idle is idle' is' row new =
      let now : List (Pass T) = set passes 0 f' in
      let first = row.each 0 f at in
      let root = row.root f at in
      let count : length (now ++ p ∷ []) ≡ length passes + 1 = let a = length-append now (p ∷ []) in let b = length-set passes 0 f' in omega arith in
      let Good : ℕ → Pass T → Type 0 = λ i q. IsIdle z o q × ((view q).number ≡ i) in
      let Fresh : Pass T → Type 0 = λ q. NewView (view q) in
      let good_f : Good 0 f' = (idle, ap (λ (v : View T). v.number) is ∙ first.1) in
      let good_p : Good (length now) p = (idle', ap (λ (v : View T). v.number) is' ∙ (root.0 ∙ sym (length-set passes 0 f'))) in
      let Unlooked : Pass T → Type 0 = λ q. (view q).checked ≡ false in
      let fresh = new.each 0 f at in
      let fresh_f : Fresh f' = subst NewView (sym is) fresh in
      let fresh_p : Fresh p = subst NewView (sym is') (fresh.0, refl, (refl, refl)) in (
        record {
          some_pass = let a = row.some_pass in omega arith;
          each = λ i q e. ⊎_elim
              (λ e'. ⊎_elim (λ (t : (i ≡ 0) × (f' ≡ q)). subst (λ (u : ℕ × Pass T). Good u.0 u.1) (λ k. (sym t.0 k, t.1 k)) good_f) (λ (t : (i ≢ 0) × (get_elem? passes i ≡ some q)). row.each i q t.1) (at_set passes 0 i f' q e'))
              (λ (t : (i ≡ length now) × (p ≡ q)). subst (λ (u : ℕ × Pass T). Good u.0 u.1) (λ k. (sym t.0 k, t.1 k)) good_p)
              (at_new now p q i e);
          root = λ q e. let here = at_longer now (p ∷ []) 0 f' (set_here passes 0 f' row.some_pass) in let same : f' ≡ q = some-injective _ _ (sym here ∙ e) in
              subst (λ (u : Pass T). ((view u).made ≡ length (now ++ p ∷ [])) × ((view u).joined ≡ [])) same
              (ap (λ (v : View T). v.made) is ∙ (let a = root.0 in omega arith), ap (λ (v : View T). v.joined) is ∙ root.1);
        },
        record {
          each = λ i q e. ⊎_elim
              (λ e'. ⊎_elim (λ (t : (i ≡ 0) × (f' ≡ q)). subst Fresh t.1 fresh_f) (λ (t : (i ≢ 0) × (get_elem? passes i ≡ some q)). new.each i q t.1) (at_set passes 0 i f' q e'))
              (λ (t : (i ≡ length now) × (p ≡ q)). subst Fresh t.1 fresh_p)
              (at_new now p q i e);
          unchecked = λ i q e. ⊎_elim
              (λ e'. ⊎_elim (λ (t : (i ≡ 0) × (f' ≡ q)). subst Unlooked t.1 (ap (λ (v : View T). v.checked) is ∙ new.unchecked 0 f at)) (λ (t : (i ≢ 0) × (get_elem? passes i ≡ some q)). new.unchecked i q t.1) (at_set passes 0 i f' q e'))
              (λ (t : (i ≡ length now) × (p ≡ q)). subst Unlooked t.1 (ap (λ (v : View T). v.checked) is'))
              (at_new now p q i e);
        },
      )
