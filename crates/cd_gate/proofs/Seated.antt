-- How many views there are of a kind, where one changes, comes or goes.
use Rattle.std.proofs.Common.{◌≡◌, ◌≢◌, ℕ, ◌+◌, ◌≤◌, Bool, false, cond, List, [], ◌∷◌, ◌++◌, set, sym, ap, ◌∙◌, ⊎_elim, arith}
use mathlib.Core.Option.{some, some-injective}
use lib.ListN.{get_elem?}
use Rattle.atomic_table.proofs.Lists.{at_set, set_here, at_longer}
use Rattle.cd_legal.specs.declared.limits.TheConstants.{MAX_BEGINS}
use Rattle.cd_gate.specs.declared.view.View.{View}
use Rattle.cd_gate.specs.Counts.{total, Crowd}
use Rattle.cd_gate.specs.Steps.{splitting, split_off, spent_view}
use Rattle.cd_gate.proofs.Crowd.{total_set}
use Rattle.cd_gate.proofs.Views.{in_range, was}

total_more : {V : Type 0} (f : V → ℕ) (vs : List V) (v : V) → total f (vs ++ v ∷ []) ≡ total f vs + f v
total_more f [] v = swap (f v)
  where
    swap : (a : ℕ) → a + 0 ≡ 0 + a
    swap a = omega arith
total_more f (x ∷ xs) v = move (f x) (total f (xs ++ v ∷ [])) (total f xs) (f v) (total_more f xs v)
  where
    move : (a b c d : ℕ) → b ≡ c + d → a + b ≡ (a + c) + d
    move a b c d e = omega arith

module _ {T : Type 0} where
  abbrev pub lives : View T → ℕ
  lives u = cond u.live 1 0

  abbrev pub checks : View T → ℕ
  checks u = cond u.checked 1 0

  fewer : (f : View T → ℕ) (views : List (View T)) (id : ℕ) (v w : View T) → get_elem? views id ≡ some v → f w ≤ f v → total f (set views id w) ≤ total f views
  fewer f views id v w at le = down (total f (set views id w)) (total f views) (f v) (f w) (total_set f views id v w at) le
    where
      down : (a b x y : ℕ) → a + x ≡ b + y → y ≤ x → a ≤ b
      down a b x y e le = omega arith

  -- one view changes, and counts no more than before
  pub crowd_set : (begun : ℕ) (views : List (View T)) (id : ℕ) (v w : View T) → get_elem? views id ≡ some v → lives w ≤ lives v → checks w ≤ checks v → w.made ≡ v.made → Crowd begun views → Crowd begun (set views id w)
  crowd_set begun views id v w at live checked same c = record {
    few = λ u e. let h = was (λ (z : View T). z.made) views id v w at same 0 u e in
        up (total lives (set views id w)) (total lives views) h.0.made u.made (fewer lives views id v w at live) (c.few h.0 h.1) h.2;
    room = λ u e. let h = was (λ (z : View T). z.made) views id v w at same 0 u e in
        rise begun (total checks (set views id w)) (total checks views) h.0.made u.made (fewer checks views id v w at checked) (c.room h.0 h.1) h.2;
  }
    where
      up : (a b k l : ℕ) → a ≤ b → b ≤ k → l ≡ k → a ≤ l
      up a b k l p q e = omega arith

      rise : (n a b k l : ℕ) → a ≤ b → n + b ≤ MAX_BEGINS + k → l ≡ k → n + a ≤ MAX_BEGINS + l
      rise n a b k l p q e = omega arith

  -- a view that is not the first is spent
  pub crowd_less : (begun : ℕ) (views : List (View T)) (other : ℕ) (w : View T) → get_elem? views other ≡ some w → 0 ≢ other → Crowd begun views → Crowd begun (set views other spent_view)
  crowd_less begun views other w there ne c = record {
    few = λ u e. let old = root_was u e in up (total lives (set views other spent_view)) (total lives views) u.made (fewer lives views other w spent_view there (zero (lives w))) (c.few u old);
    room = λ u e. let old = root_was u e in rise begun (total checks (set views other spent_view)) (total checks views) u.made (fewer checks views other w spent_view there (zero (checks w))) (c.room u old);
  }
    where
      zero : (n : ℕ) → 0 ≤ n
      zero n = omega arith

      up : (a b k : ℕ) → a ≤ b → b ≤ k → a ≤ k
      up a b k p q = omega arith

      rise : (n a b k : ℕ) → a ≤ b → n + b ≤ MAX_BEGINS + k → n + a ≤ MAX_BEGINS + k
      rise n a b k p q = omega arith

      root_was : (u : View T) → get_elem? (set views other spent_view) 0 ≡ some u → get_elem? views 0 ≡ some u
      root_was u e = ⊎_elim (λ (t : (0 ≡ other) × (spent_view ≡ u)). absurd (ne t.0)) (λ (t : (0 ≢ other) × (get_elem? views 0 ≡ some u)). t.1) (at_set views other 0 spent_view u e)

  -- one comes that is not live and has found no room
  pub crowd_more : (begun : ℕ) (views : List (View T)) (root d : View T) → get_elem? views 0 ≡ some root → d.live ≡ false → d.checked ≡ false → Crowd begun views → Crowd begun (views ++ d ∷ [])
  crowd_more begun views root d at dead unchecked c = record {
    few = λ u e. let same = root_is u e in
        up (total lives (views ++ d ∷ [])) (total lives views) (lives d) root.made u.made (total_more lives views d) (ap (λ (b : Bool). cond {A = ℕ} b 1 0) dead) (c.few root at) (ap (λ (z : View T). z.made) same);
    room = λ u e. let same = root_is u e in
        rise begun (total checks (views ++ d ∷ [])) (total checks views) (checks d) root.made u.made (total_more checks views d) (ap (λ (b : Bool). cond {A = ℕ} b 1 0) unchecked) (c.room root at) (ap (λ (z : View T). z.made) same);
  }
    where
      up : (a b x k l : ℕ) → a ≡ b + x → x ≡ 0 → b ≤ k → l ≡ k → a ≤ l
      up a b x k l e f le g = omega arith

      rise : (n a b x k l : ℕ) → a ≡ b + x → x ≡ 0 → n + b ≤ MAX_BEGINS + k → l ≡ k → n + a ≤ MAX_BEGINS + l
      rise n a b x k l e f le g = omega arith

      root_is : (u : View T) → get_elem? (views ++ d ∷ []) 0 ≡ some u → u ≡ root
      root_is u e = some-injective _ _ (sym e ∙ at_longer views (d ∷ []) 0 root at)

  -- the first view makes one pass more
  pub crowd_split : (begun : ℕ) (views : List (View T)) (id : ℕ) (v : View T) → get_elem? views id ≡ some v → id ≡ 0 → Crowd begun views → Crowd begun (set views id (splitting v) ++ split_off v ∷ [])
  crowd_split begun views id v at first c = record {
    few = λ u e. let same = root_is u e in
        up (total lives (set views id (splitting v) ++ split_off v ∷ [])) (total lives (set views id (splitting v))) (total lives views) v.made u.made (total_more lives (set views id (splitting v)) (split_off v)) (fewer lives views id v (splitting v) at (self (lives v))) (c.few v root_at) (ap (λ (z : View T). z.made) same);
    room = λ u e. let same = root_is u e in
        rise begun (total checks (set views id (splitting v) ++ split_off v ∷ [])) (total checks (set views id (splitting v))) (total checks views) v.made u.made (total_more checks (set views id (splitting v)) (split_off v)) (fewer checks views id v (splitting v) at (self (checks v))) (c.room v root_at) (ap (λ (z : View T). z.made) same);
  }
    where
      self : (n : ℕ) → n ≤ n
      self n = omega arith

      root_at : get_elem? views 0 ≡ some v
      root_at = ap (get_elem? views) (sym first) ∙ at

      up : (a b t k l : ℕ) → a ≡ b + 1 → b ≤ t → t ≤ k → l ≡ k + 1 → a ≤ l
      up a b t k l e p q f = omega arith

      rise : (n a b t k l : ℕ) → a ≡ b + 0 → b ≤ t → n + t ≤ MAX_BEGINS + k → l ≡ k + 1 → n + a ≤ MAX_BEGINS + l
      rise n a b t k l e p q f = omega arith

      root_is : (u : View T) → get_elem? (set views id (splitting v) ++ split_off v ∷ []) 0 ≡ some u → u ≡ splitting v
      root_is u e = some-injective _ _ (sym e ∙ at_longer (set views id (splitting v)) (split_off v ∷ []) 0 (splitting v) (ap (get_elem? (set views id (splitting v))) (sym first) ∙ set_here views id (splitting v) (in_range views id v at)))
