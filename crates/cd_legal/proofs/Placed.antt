-- The entries of a pass, where the history is longer.
use Rattle.std.proofs.Common.{◌≡◌, ℕ, ◌==◌, Bool, true, false, cond, List, [], ◌∷◌, ◌++◌, refl, ap, sym, ◌∙◌, eq-eqb}
use Rattle.std.proofs.lemmas.List.{append-nil, append_assoc}
use Rattle.cd_legal.specs.declared.entry.Entry.{Entry}
use Rattle.cd_legal.specs.declared.entry.Signed.{Signed}
use Rattle.cd_legal.specs.Entry.{signed, mine, entries}
use Rattle.cd_legal.specs.Placed.{Placed, placed_from, placed, placed_entries}

pick : (b : Bool) (p : Placed) (xs ys : List Placed) → cond b (p ∷ (xs ++ ys)) (xs ++ ys) ≡ cond b (p ∷ xs) xs ++ ys
pick true p xs ys = refl
pick false p xs ys = refl

placed_from-append : (k : ℕ) (before xs ys : List Signed) → placed_from k before (xs ++ ys) ≡ placed_from k before xs ++ placed_from k (before ++ xs) ys
placed_from-append k before [] ys = ap (λ (b : List Signed). placed_from k b ys) (sym (append-nil before))
placed_from-append k before (e ∷ es) ys =
    let p : Placed = record { before = before; entry = e.entry } in
    let next : List Signed = before ++ e ∷ [] in
    ap (λ (z : List Placed). cond (e.by == k) (p ∷ z) z) (placed_from-append k next es ys)
    ∙ pick (e.by == k) p (placed_from k next es) (placed_from k (next ++ es) ys)
    ∙ ap (λ (b : List Signed). placed_from k before (e ∷ es) ++ placed_from k b ys) (append_assoc before (e ∷ []) es)

-- what was placed stays where it is, and what is new stands after the whole history
pub placed-append : (k : ℕ) (xs ys : List Signed) → placed k (xs ++ ys) ≡ placed k xs ++ placed_from k xs ys
placed-append k xs ys = placed_from-append k [] xs ys

skips : (b : Bool) (e : Signed) (p : Placed) (own : List Signed) (there : List Placed) → cond b (e ∷ own) own ≡ [] → (own ≡ [] → there ≡ []) → cond b (p ∷ there) there ≡ []
skips true e p own there none goes = absurd (let h : e ∷ own ≡ [] = none in cc)
skips false e p own there none goes = goes none

placed-none : (k : ℕ) (before xs : List Signed) → mine k xs ≡ [] → placed_from k before xs ≡ []
placed-none k before [] none = refl
placed-none k before (e ∷ es) none =
    skips (e.by == k) e (record { before = before; entry = e.entry }) (mine k es) (placed_from k (before ++ e ∷ []) es) none
    (placed-none k (before ++ e ∷ []) es)

-- entries of others change nothing of what is placed
pub placed-stays : (k : ℕ) (xs ys : List Signed) → mine k ys ≡ [] → placed k (xs ++ ys) ≡ placed k xs
placed-stays k xs ys none = placed-append k xs ys ∙ (ap (λ (z : List Placed). placed k xs ++ z) (placed-none k xs ys none) ∙ append-nil (placed k xs))

kept : (b : Bool) (e : Signed) (before own : List Signed) (there : List Placed) → placed_entries there ≡ entries own → placed_entries (cond b (record { before = before; entry = e.entry } ∷ there) there) ≡ entries (cond b (e ∷ own) own)
kept true e before own there is = ap (λ (z : List Entry). e.entry ∷ z) is
kept false e before own there is = is

placed_from-entries : (k : ℕ) (before xs : List Signed) → placed_entries (placed_from k before xs) ≡ entries (mine k xs)
placed_from-entries k before [] = refl
placed_from-entries k before (e ∷ es) = kept (e.by == k) e before (mine k es) (placed_from k (before ++ e ∷ []) es) (placed_from-entries k (before ++ e ∷ []) es)

-- the placed entries are those that the pass has signed
pub placed-entries : (k : ℕ) (history : List Signed) → placed_entries (placed k history) ≡ entries (mine k history)
placed-entries k history = placed_from-entries k [] history

-- an own entry at the end stands after all before it
pub placed-own : (k : ℕ) (before : List Signed) (e : Entry) → placed k (before ++ signed k e ∷ []) ≡ placed k before ++ record { before = before; entry = e } ∷ []
placed-own k before e = placed-append k before (signed k e ∷ []) ∙ ap (λ (b : Bool). placed k before ++ cond b (record { before = before; entry = e } ∷ []) []) (eq-eqb k k refl)
