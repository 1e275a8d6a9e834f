-- The pairs of all other drafts.
use Rattle.std.proofs.Common.{◌≡◌, ◌≢◌, ℕ, ◌==◌, Bool, true, false, cond, not, List, [], ◌∷◌, ◌++◌, refl, sym, ap, ◌∙◌, eq-eqb}
use Rattle.std.specs.Prelude.{◌||◌}
use Rattle.std.proofs.lemmas.Bool.{eqb-true}
use Rattle.cd_outside.specs.declared.key.Key.{Key}
use Rattle.cd_outside.specs.declared.holder.Holder.{Holder}
use Rattle.cd_outside.specs.declared.holder.Pair.{Pair}
use Rattle.cd_outside.specs.Keys.{key_eq, holder_eq, has_key, keys_in, keys_of, without_holder, pairs_for}
use Rattle.cd_legal.specs.Abandoned.{pairs_of_others}
use Rattle.cd_legal.proofs.Histories.{first}

put : (b : Bool) (p : Pair) (ps qs rs : List Pair) → rs ≡ ps ++ qs → cond b rs (p ∷ rs) ≡ cond b ps (p ∷ ps) ++ qs
put true p ps qs rs e = e
put false p ps qs rs e = ap (λ zs. p ∷ zs) e

-- of two lists, one after another
pub others-append : (d : ℕ) (ps qs : List Pair) → pairs_of_others d (ps ++ qs) ≡ pairs_of_others d ps ++ pairs_of_others d qs
others-append d [] qs = refl
others-append d (p ∷ ps) qs = put (p.holder.draft == d) p (pairs_of_others d ps) (pairs_of_others d qs) _ (others-append d ps qs)

-- pairs of the draft itself
pub others-own : (d : ℕ) (h : Holder) (ks : List Key) → (h.draft == d) ≡ true → pairs_of_others d (pairs_for h ks) ≡ []
others-own d h [] own = refl
others-own d h (k ∷ ks) own = ap (λ (z : Bool). cond z (pairs_of_others d (pairs_for h ks)) (record { key = k; holder = h } ∷ pairs_of_others d (pairs_for h ks))) own ∙ others-own d h ks own

-- pairs of another
pub others-other : (d : ℕ) (h : Holder) (ks : List Key) → (h.draft == d) ≡ false → pairs_of_others d (pairs_for h ks) ≡ pairs_for h ks
others-other d h [] other = refl
others-other d h (k ∷ ks) other = ap (λ (z : Bool). cond z (pairs_of_others d (pairs_for h ks)) (record { key = k; holder = h } ∷ pairs_of_others d (pairs_for h ks))) other ∙ ap (λ (zs : List Pair). record { key = k; holder = h } ∷ zs) (others-other d h ks other)

-- ---- a holder's pairs taken away

-- holders that are the same have the same draft
same_draft : (g h : Holder) → holder_eq g h ≡ true → g.draft ≡ h.draft
same_draft g h e = eqb-true g.draft h.draft (first (g.draft == h.draft) _ e)

module _ (d : ℕ) (h : Holder) where
  turn : (b c : Bool) (p : Pair) (ws os : List Pair) → holder_eq h p.holder ≡ b → (p.holder.draft == d) ≡ c → pairs_of_others d ws ≡ without_holder h os
      → pairs_of_others d (cond b ws (p ∷ ws)) ≡ without_holder h (cond c os (p ∷ os))
  turn true true p ws os b c e = e
  turn true false p ws os b c e = e ∙ sym (ap (λ (z : Bool). cond z (without_holder h os) (p ∷ without_holder h os)) b)
  turn false true p ws os b c e = ap (λ (z : Bool). cond z (pairs_of_others d ws) (p ∷ pairs_of_others d ws)) c ∙ e
  turn false false p ws os b c e = ap (λ (z : Bool). cond z (pairs_of_others d ws) (p ∷ pairs_of_others d ws)) c ∙ (ap (λ zs. p ∷ zs) e ∙ sym (ap (λ (z : Bool). cond z (without_holder h os) (p ∷ without_holder h os)) b))

  -- in either order
  pub others-without : (ps : List Pair) → pairs_of_others d (without_holder h ps) ≡ without_holder h (pairs_of_others d ps)
  others-without [] = refl
  others-without (p ∷ ps) = turn (holder_eq h p.holder) (p.holder.draft == d) p (without_holder h ps) (pairs_of_others d ps) refl refl (others-without ps)

  drops : (b : Bool) (p : Pair) (ws ps : List Pair) → (b ≡ true → (p.holder.draft == d) ≡ true) → pairs_of_others d ws ≡ pairs_of_others d ps → pairs_of_others d (cond b ws (p ∷ ws)) ≡ pairs_of_others d (p ∷ ps)
  drops true p ws ps own e = e ∙ sym (ap (λ (z : Bool). cond z (pairs_of_others d ps) (p ∷ pairs_of_others d ps)) (own refl))
  drops false p ws ps own e = ap (λ (zs : List Pair). cond (p.holder.draft == d) zs (p ∷ zs)) e

  -- one of the draft itself
  pub others-without_own : h.draft ≡ d → (ps : List Pair) → pairs_of_others d (without_holder h ps) ≡ pairs_of_others d ps
  others-without_own own [] = refl
  others-without_own own (p ∷ ps) = drops (holder_eq h p.holder) p (without_holder h ps) ps (λ e. eq-eqb p.holder.draft d (sym (same_draft h p.holder e) ∙ own)) (others-without_own own ps)

  looks : (b : Bool) (p : Pair) (os ps : List Pair) → (b ≡ true → holder_eq h p.holder ≡ false) → keys_of h ps ≡ keys_of h os → keys_of h (p ∷ ps) ≡ keys_of h (cond b os (p ∷ os))
  looks true p os ps unlike e = ap (λ (z : Bool). cond z (p.key ∷ keys_of h ps) (keys_of h ps)) (unlike refl) ∙ e
  looks false p os ps unlike e = ap (λ (zs : List Key). cond (holder_eq h p.holder) (p.key ∷ zs) zs) e

  is_none_of : (b : Bool) → (b ≡ true → h.draft ≡ d) → h.draft ≢ d → b ≡ false
  is_none_of true same ne = absurd (ne (same refl))
  is_none_of false same ne = refl

  -- the keys of a holder of another draft
  pub others-keys : h.draft ≢ d → (ps : List Pair) → keys_of h ps ≡ keys_of h (pairs_of_others d ps)
  others-keys ne [] = refl
  others-keys ne (p ∷ ps) = looks (p.holder.draft == d) p (pairs_of_others d ps) ps (λ e. is_none_of (holder_eq h p.holder) (λ q. same_draft h p.holder q ∙ eqb-true p.holder.draft d e) ne) (others-keys ne ps)

-- ---- twice, and what nobody has

twice : (d : ℕ) (b : Bool) (p : Pair) (os : List Pair) → (p.holder.draft == d) ≡ b → os ≡ pairs_of_others d os → cond b os (p ∷ os) ≡ pairs_of_others d (cond b os (p ∷ os))
twice d true p os is e = e
twice d false p os is e = ap (λ zs. p ∷ zs) e ∙ sym (ap (λ (z : Bool). cond z (pairs_of_others d os) (p ∷ pairs_of_others d os)) is)

pub others-twice : (d : ℕ) (ps : List Pair) → pairs_of_others d ps ≡ pairs_of_others d (pairs_of_others d ps)
others-twice d [] = refl
others-twice d (p ∷ ps) = twice d (p.holder.draft == d) p (pairs_of_others d ps) refl (others-twice d ps)

fewer : (b same : Bool) (key : Key) (p : Pair) (os : List Pair) (ks : List Key) (has : Bool) → key_eq key p.key ≡ same → (not has ≡ true → not (has_key key (keys_in os ++ ks)) ≡ true) → not (same || has) ≡ true → not (has_key key (keys_in (cond b os (p ∷ os)) ++ ks)) ≡ true
fewer b true key p os ks has is rest none = cc
fewer true false key p os ks has is rest none = rest none
fewer false false key p os ks has is rest none = ap (λ (z : Bool). not (z || has_key key (keys_in os ++ ks))) is ∙ rest none

-- a key that no pair has, none of theirs has
pub others-none : (d : ℕ) (key : Key) (ks : List Key) (ps : List Pair) → not (has_key key (keys_in ps ++ ks)) ≡ true → not (has_key key (keys_in (pairs_of_others d ps) ++ ks)) ≡ true
others-none d key ks [] none = none
others-none d key ks (p ∷ ps) none = fewer (p.holder.draft == d) (key_eq key p.key) key p (pairs_of_others d ps) ks (has_key key (keys_in ps ++ ks)) refl (others-none d key ks ps) none
