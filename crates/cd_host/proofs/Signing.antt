-- Who has signed which entries.
use Rattle.std.proofs.Common.{◌≡◌, ◌≤◌, ℕ, zero, suc, ◌==◌, Bool, true, false, cond, List, [], ◌∷◌, ◌++◌, length, drop, refl, ap, sym, ◌∙◌, eq-eqb, ⊎_elim, arith}
use Rattle.std.proofs.lemmas.Bool.Decides.{eqb_tells}
use Rattle.cd_legal.specs.declared.entry.Entry.{Entry}
use Rattle.cd_legal.specs.declared.entry.Signed.{Signed}
use Rattle.cd_legal.specs.Entry.{signed, entries, mine}
use Rattle.cd_gate.specs.Growing.{all_signed}

pub none-left : {A : Type 0} (xs ys : List A) → xs ++ ys ≡ [] → xs ≡ []
none-left [] ys is = refl
none-left (x ∷ xs) ys is = absurd (let e : x ∷ (xs ++ ys) ≡ [] = is in cc)

pub none-right : {A : Type 0} (xs ys : List A) → xs ++ ys ≡ [] → ys ≡ []
none-right [] ys is = is
none-right (x ∷ xs) ys is = absurd (let e : x ∷ (xs ++ ys) ≡ [] = is in cc)

above : (n : ℕ) → ¬ (n ≡ 0) → 1 ≤ n
above zero ne = absurd (ne refl)
above (suc n) ne = omega arith

rest-none : (b : Bool) (x : Signed) (own : List Signed) → cond b (x ∷ own) own ≡ [] → own ≡ []
rest-none true x own is = absurd (let e : x ∷ own ≡ [] = is in cc)
rest-none false x own is = is

not-here : (b : Bool) (x : Signed) (own : List Signed) → cond b (x ∷ own) own ≡ [] → b ≡ false
not-here true x own is = absurd (let e : x ∷ own ≡ [] = is in cc)
not-here false x own is = refl

-- what no other pass has signed is the program's own
pub own-alone : (log : List Signed) → ((k : ℕ) → 1 ≤ k → mine k log ≡ []) → mine 0 log ≡ log
own-alone [] none = refl
own-alone (x ∷ xs) none = ⊎_elim
    (λ q. ap (λ (b : Bool). cond b (x ∷ mine 0 xs) (mine 0 xs)) q.0 ∙ ap (λ (l : List Signed). x ∷ l) (own-alone xs (λ k pos. rest-none (x.by == k) x (mine k xs) (none k pos))))
    (λ q. absurd (let e : true ≡ false = sym (eq-eqb x.by x.by refl) ∙ not-here (x.by == x.by) x (mine x.by xs) (none x.by (above x.by q.1)) in cc))
    (eqb_tells x.by 0)

-- ---- lists that one pass has signed

pub mine-all : (k : ℕ) (es : List Entry) → mine k (all_signed k es) ≡ all_signed k es
mine-all k [] = refl
mine-all k (e ∷ es) =
    ap (λ (b : Bool). cond b (signed k e ∷ mine k (all_signed k es)) (mine k (all_signed k es))) (eq-eqb k k refl)
    ∙ ap (λ (l : List Signed). signed k e ∷ l) (mine-all k es)

pub entries-all : (k : ℕ) (es : List Entry) → entries (all_signed k es) ≡ es
entries-all k [] = refl
entries-all k (e ∷ es) = ap (λ (l : List Entry). e ∷ l) (entries-all k es)

pub all-append : (k : ℕ) (xs ys : List Entry) → all_signed k (xs ++ ys) ≡ all_signed k xs ++ all_signed k ys
all-append k [] ys = refl
all-append k (x ∷ xs) ys = ap (λ (l : List Signed). signed k x ∷ l) (all-append k xs ys)

-- a history without entries has none
pub entries-none : (log : List Signed) → entries log ≡ [] → log ≡ []
entries-none [] is = refl
entries-none (x ∷ xs) is = absurd (let e : x.entry ∷ entries xs ≡ [] = is in cc)

-- the entries of one pass are not more than all
pub mine-length : (k : ℕ) (log : List Signed) → length (mine k log) ≤ length log
mine-length k [] = omega arith
mine-length k (x ∷ xs) = here (x.by == k) (mine-length k xs)
  where
    here : (b : Bool) → length (mine k xs) ≤ length xs → length (cond b (x ∷ mine k xs) (mine k xs)) ≤ length (x ∷ xs)
    here true low = omega (arith, low)
    here false low = omega (arith, low)

-- a beginning of what the program alone has signed is its own too
pub front-own : (xs ys : List Signed) → mine 0 (xs ++ ys) ≡ xs ++ ys → mine 0 xs ≡ xs
front-own [] ys own = refl
front-own (x ∷ xs) ys own = here (x.by == 0) (front-own xs ys) refl own
  where
    here : (b : Bool) → (mine 0 (xs ++ ys) ≡ xs ++ ys → mine 0 xs ≡ xs) → (x.by == 0) ≡ b → cond b (x ∷ mine 0 (xs ++ ys)) (mine 0 (xs ++ ys)) ≡ x ∷ (xs ++ ys) → mine 0 (x ∷ xs) ≡ x ∷ xs
    here true rest is own = ap (λ (b : Bool). cond b (x ∷ mine 0 xs) (mine 0 xs)) is ∙ ap (λ (l : List Signed). x ∷ l) (rest (ap (drop 1) own))
    here false rest is own = let low = mine-length 0 (xs ++ ys) in let all = ap length own in absurd (omega arith)
