-- What a pass owes, where the history is longer.
use Rattle.std.proofs.Common.{◌≡◌, ◌≢◌, ℕ, ◌==◌, Bool, true, false, cond, List, [], ◌∷◌, ◌++◌, refl, ap, ◌∙◌, eq-eqb, ne_eqb}
use Rattle.cd_legal.specs.declared.entry.Entry.{Entry}
use Rattle.cd_legal.specs.declared.entry.Signed.{Signed}
use Rattle.cd_legal.specs.Entry.{signed, mine}
use Rattle.cd_legal.specs.Owing.{Owes, owes_nothing, owes_by, owes_from, owes_of}

owes_from-append : (o : Owes) (k : ℕ) (xs ys : List Signed) → owes_from o k (xs ++ ys) ≡ owes_from (owes_from o k xs) k ys
owes_from-append o k [] ys = refl
owes_from-append o k (x ∷ xs) ys = owes_from-append (cond (x.by == k) (owes_by o x.entry) o) k xs ys

-- one entry more
pub owes-snoc : (k : ℕ) (log : List Signed) (x : Signed) → owes_of k (log ++ x ∷ []) ≡ cond (x.by == k) (owes_by (owes_of k log) x.entry) (owes_of k log)
owes-snoc k log x = owes_from-append owes_nothing k log (x ∷ [])

-- its own
pub owes-own : (k : ℕ) (log : List Signed) (e : Entry) → owes_of k (log ++ signed k e ∷ []) ≡ owes_by (owes_of k log) e
owes-own k log e = owes-snoc k log (signed k e) ∙ ap (λ (b : Bool). cond b (owes_by (owes_of k log) e) (owes_of k log)) (eq-eqb k k refl)

-- another's leaves it
pub owes-other : (j k : ℕ) (log : List Signed) (e : Entry) → j ≢ k → owes_of k (log ++ signed j e ∷ []) ≡ owes_of k log
owes-other j k log e ne = owes-snoc k log (signed j e) ∙ ap (λ (b : Bool). cond b (owes_by (owes_of k log) e) (owes_of k log)) (ne_eqb j k ne)

skips : (b : Bool) (k : ℕ) (x : Signed) (own xs : List Signed) (o p : Owes) → cond b (x ∷ own) own ≡ [] → (own ≡ [] → owes_from o k xs ≡ o) → owes_from (cond b p o) k xs ≡ o
skips true k x own xs o p none goes = absurd (let h : x ∷ own ≡ [] = none in cc)
skips false k x own xs o p none goes = goes none

owes_from-none : (o : Owes) (k : ℕ) (xs : List Signed) → mine k xs ≡ [] → owes_from o k xs ≡ o
owes_from-none o k [] none = refl
owes_from-none o k (x ∷ xs) none = skips (x.by == k) k x (mine k xs) xs o (owes_by o x.entry) none (owes_from-none o k xs)

-- all entries of others leave it
pub owes-stays : (k : ℕ) (xs ys : List Signed) → mine k ys ≡ [] → owes_of k (xs ++ ys) ≡ owes_of k xs
owes-stays k xs ys none = owes_from-append owes_nothing k xs ys ∙ owes_from-none (owes_of k xs) k ys none

-- a pass without entries owes nothing
pub owes-none : (k : ℕ) (log : List Signed) → mine k log ≡ [] → owes_of k log ≡ owes_nothing
owes-none k log none = owes_from-none owes_nothing k log none
