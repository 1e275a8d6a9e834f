-- The rows of drafts, whose numbers rise.
use Rattle.std.proofs.Common.{◌≡◌, ◌≢◌, ℕ, zero, suc, ◌+◌, ◌<◌, ◌≤◌, ◌==◌, Bool, true, false, cond, List, [], ◌∷◌, ◌++◌, drop, set, refl, sym, ap, ◌∙◌, arith, Some, None, Option, slice_get, subst, ⊎_elim, eq-eqb, ne_eqb}
use Rattle.std.proofs.lemmas.Bool.Decides.{eqb_tells}
use Rattle.std.specs.List.{remove}
use Rattle.cd_desk.specs.declared.row.Row.{Row}
use Rattle.cd_desk.specs.declared.books.Books.{Books}
use Rattle.cd_desk.specs.Rows.{row_with, Numbered}
use Rattle.cd_desk.specs.Books.{RowAt, HasRowAt, IsRowPlace, Changes}
use Rattle.cd_desk.proofs.Lists.{get_set_same, same_at, some_is, some_none}

-- ---- numbers and places

pub above_at : (from : ℕ) (rows : List Row) (to j : ℕ) (r : Row) → Numbered from rows to → slice_get rows j ≡ Some r → from ≤ r.number
above_at from [] to j r n e = cc
above_at from (x ∷ rows) to zero r n e = subst (λ (z : Row). from ≤ z.number) (some_is x r e) n.0
above_at from (x ∷ rows) to (suc j) r n e = let rest = above_at (suc x.number) rows to j r n.1 e in let first = n.0 in omega (arith, rest, first)

pub below : (from : ℕ) (rows : List Row) (to : ℕ) → Numbered from rows to → from ≤ to
below from [] to n = n
below from (x ∷ rows) to n = let rest = below (suc x.number) rows to n.1 in let first = n.0 in omega (arith, rest, first)

pub below_at : (from : ℕ) (rows : List Row) (to j : ℕ) (r : Row) → Numbered from rows to → slice_get rows j ≡ Some r → r.number < to
below_at from [] to j r n e = cc
below_at from (x ∷ rows) to zero r n e = subst (λ (z : Row). z.number < to) (some_is x r e) (let rest = below (suc x.number) rows to n.1 in omega (arith, rest))
below_at from (x ∷ rows) to (suc j) r n e = below_at (suc x.number) rows to j r n.1 e

-- a later one has a greater number
pub rises : (from : ℕ) (rows : List Row) (to i j : ℕ) (r t : Row) → Numbered from rows to → i < j → slice_get rows i ≡ Some r → slice_get rows j ≡ Some t → r.number < t.number
rises from [] to i j r t n lt e f = cc
rises from (x ∷ rows) to zero zero r t n lt e f = absurd (omega (arith, lt))
rises from (x ∷ rows) to zero (suc j) r t n lt e f = subst (λ (z : Row). z.number < t.number) (some_is x r e) (let rest = above_at (suc x.number) rows to j t n.1 f in omega (arith, rest))
rises from (x ∷ rows) to (suc i) zero r t n lt e f = absurd (omega (arith, lt))
rises from (x ∷ rows) to (suc i) (suc j) r t n lt e f = rises (suc x.number) rows to i j r t n.1 (omega (arith, lt)) e f

pub same_place : (from : ℕ) (rows : List Row) (to i j : ℕ) (r t : Row) → Numbered from rows to → slice_get rows i ≡ Some r → slice_get rows j ≡ Some t → r.number ≡ t.number → i ≡ j
same_place from [] to i j r t n e f same = cc
same_place from (x ∷ rows) to zero zero r t n e f same = refl
same_place from (x ∷ rows) to zero (suc j) r t n e f same = absurd (let more = rises from (x ∷ rows) to 0 (suc j) r t n (omega arith) e f in omega (arith, more, same))
same_place from (x ∷ rows) to (suc i) zero r t n e f same = absurd (let more = rises from (x ∷ rows) to 0 (suc i) t r n (omega arith) f e in omega (arith, more, same))
same_place from (x ∷ rows) to (suc i) (suc j) r t n e f same = ap suc (same_place (suc x.number) rows to i j r t n.1 e f same)

pub numbered_from : (from less : ℕ) (rows : List Row) (to : ℕ) → less ≤ from → Numbered from rows to → Numbered less rows to
numbered_from from less [] to le n = omega (arith, le, n)
numbered_from from less (x ∷ rows) to le n = (let first = n.0 in omega (arith, le, first), n.1)

-- ---- the row of a number

first_is : (d : ℕ) (x : Row) (rest : Option Row) → d ≡ x.number → cond (d == x.number) (Some x) rest ≡ Some x
first_is d x rest e = ap (λ (b : Bool). cond b (Some x) rest) (eq-eqb d x.number e)

first_not : (d : ℕ) (x : Row) (rest : Option Row) → d ≢ x.number → cond (d == x.number) (Some x) rest ≡ rest
first_not d x rest ne = ap (λ (b : Bool). cond b (Some x) rest) (ne_eqb d x.number ne)

pub with_at : (from : ℕ) (rows : List Row) (to j : ℕ) (r : Row) → Numbered from rows to → slice_get rows j ≡ Some r → row_with r.number rows ≡ Some r
with_at from [] to j r n e = cc
with_at from (x ∷ rows) to zero r n e = let same : x ≡ r = some_is x r e in first_is r.number x (row_with r.number rows) (ap (λ (z : Row). z.number) (sym same)) ∙ ap (λ z. Some z) same
with_at from (x ∷ rows) to (suc j) r n e =
    first_not r.number x (row_with r.number rows) (λ (same : r.number ≡ x.number). (let rest = above_at (suc x.number) rows to j r n.1 e in omega (arith, rest, same))) ∙ with_at (suc x.number) rows to j r n.1 e

pub at_with : (d : ℕ) (rows : List Row) (r : Row) → row_with d rows ≡ Some r → (place : ℕ) × (slice_get rows place ≡ Some r) × (d ≡ r.number)
at_with d [] r e = absurd (let f : false ≡ true = some_none r (sym e) in cc)
at_with d (x ∷ rows) r e = ⊎_elim
    (λ q. (let same : x ≡ r = some_is x r (sym (first_is d x (row_with d rows) q.1) ∙ e) in (0, ap (λ z. Some z) same, q.1 ∙ ap (λ (z : Row). z.number) same)))
    (λ q. (let p = at_with d rows r (sym (first_not d x (row_with d rows) q.1) ∙ e) in (suc p.0, p.1, p.2)))
    (eqb_tells d x.number)

pub with_none : (d from : ℕ) (rows : List Row) (to : ℕ) → d < from → Numbered from rows to → row_with d rows ≡ None
with_none d from [] to lt n = refl
with_none d from (x ∷ rows) to lt n =
    let first = n.0 in
    first_not d x (row_with d rows) (λ (same : d ≡ x.number). omega (arith, lt, first, same)) ∙ with_none d (suc x.number) rows to (omega (arith, lt, first)) n.1

pub with_none_after : (d from : ℕ) (rows : List Row) (to : ℕ) → to ≤ d → Numbered from rows to → row_with d rows ≡ None
with_none_after d from [] to le n = refl
with_none_after d from (x ∷ rows) to le n =
    let rest = below (suc x.number) rows to n.1 in
    first_not d x (row_with d rows) (λ (same : d ≡ x.number). omega (arith, le, rest, same)) ∙ with_none_after d (suc x.number) rows to le n.1

-- one that is met first is found
pub with_here : (d : ℕ) (rows : List Row) (place : ℕ) (r : Row) → slice_get rows place ≡ Some r → (d == r.number) ≡ true → row_with d (drop place rows) ≡ Some r
with_here d [] place r e has = absurd (let f : false ≡ true = some_none r (sym e) in cc)
with_here d (x ∷ rows) zero r e has = ap (λ (z : Row). row_with d (z ∷ rows)) (some_is x r e) ∙ ap (λ (b : Bool). cond b (Some r) (row_with d rows)) has
with_here d (x ∷ rows) (suc place) r e has = with_here d rows place r e has

-- ---- a row in place of another with its number

pub numbered_set : (from : ℕ) (rows : List Row) (to j : ℕ) (r t : Row) → Numbered from rows to → slice_get rows j ≡ Some r → t.number ≡ r.number → Numbered from (set rows j t) to
numbered_set from [] to j r t n e same = cc
numbered_set from (x ∷ rows) to zero r t n e same =
    let its : t.number ≡ x.number = same ∙ ap (λ (z : Row). z.number) (sym (some_is x r e)) in
    (subst (λ (z : ℕ). from ≤ z) (sym its) n.0, subst (λ (z : ℕ). Numbered (suc z) rows to) (sym its) n.1)
numbered_set from (x ∷ rows) to (suc j) r t n e same = (n.0, numbered_set (suc x.number) rows to j r t n.1 e same)

pub with_set_same : (from : ℕ) (rows : List Row) (to j : ℕ) (r t : Row) → Numbered from rows to → slice_get rows j ≡ Some r → t.number ≡ r.number → row_with r.number (set rows j t) ≡ Some t
with_set_same from rows to j r t n e same = subst (λ (z : ℕ). row_with z (set rows j t) ≡ Some t) same (with_at from (set rows j t) to j t (numbered_set from rows to j r t n e same) (get_set_same rows j r t e))

pub with_set_other : (d : ℕ) (rows : List Row) (j : ℕ) (r t : Row) → slice_get rows j ≡ Some r → t.number ≡ r.number → d ≢ r.number → row_with d (set rows j t) ≡ row_with d rows
with_set_other d [] j r t e same ne = cc
with_set_other d (x ∷ rows) zero r t e same ne =
    let its : r.number ≡ x.number = ap (λ (z : Row). z.number) (sym (some_is x r e)) in
    first_not d t (row_with d rows) (λ (q : d ≡ t.number). ne (q ∙ same)) ∙ sym (first_not d x (row_with d rows) (λ (q : d ≡ x.number). ne (q ∙ sym its)))
with_set_other d (x ∷ rows) (suc j) r t e same ne = ap (λ z. cond (d == x.number) (Some x) z) (with_set_other d rows j r t e same ne)

-- where it has no row afterwards it had none
pub none_before : (d from : ℕ) (rows : List Row) (to j : ℕ) (r t : Row) → Numbered from rows to → slice_get rows j ≡ Some r → t.number ≡ r.number → row_with d (set rows j t) ≡ None → row_with d rows ≡ None
none_before d from rows to j r t n e same none = ⊎_elim
    (λ q. absurd (let f : false ≡ true = some_none t (sym (with_set_same from rows to j r t n e same) ∙ (ap (λ (z : ℕ). row_with z (set rows j t)) (sym q.1) ∙ none)) in cc))
    (λ q. sym (with_set_other d rows j r t e same q.1) ∙ none)
    (eqb_tells d r.number)

-- ---- a row more

pub numbered_push : (from : ℕ) (rows : List Row) (to : ℕ) (r : Row) → Numbered from rows to → r.number ≡ to → Numbered from (rows ++ r ∷ []) (to + 1)
numbered_push from [] to r n e = (omega (arith, n, e), omega (arith, e))
numbered_push from (x ∷ rows) to r n e = (n.0, numbered_push (suc x.number) rows to r n.1 e)

pub with_push_other : (d : ℕ) (rows : List Row) (r : Row) → d ≢ r.number → row_with d (rows ++ r ∷ []) ≡ row_with d rows
with_push_other d [] r ne = first_not d r None ne
with_push_other d (x ∷ rows) r ne = ap (λ z. cond (d == x.number) (Some x) z) (with_push_other d rows r ne)

pub with_push_same : (rows : List Row) (r : Row) → row_with r.number rows ≡ None → row_with r.number (rows ++ r ∷ []) ≡ Some r
with_push_same [] r none = first_is r.number r None refl
with_push_same (x ∷ rows) r none = ⊎_elim
    (λ q. absurd (let f : false ≡ true = some_none x (sym (first_is r.number x (row_with r.number rows) q.1) ∙ none) in cc))
    (λ q. first_not r.number x (row_with r.number (rows ++ r ∷ [])) q.1 ∙ with_push_same rows r (sym (first_not r.number x (row_with r.number rows) q.1) ∙ none))
    (eqb_tells r.number x.number)

-- ---- a row less

pub numbered_remove : (from : ℕ) (rows : List Row) (to j : ℕ) (r : Row) → Numbered from rows to → slice_get rows j ≡ Some r → Numbered from (remove rows j) to
numbered_remove from [] to j r n e = cc
numbered_remove from (x ∷ rows) to zero r n e = numbered_from (suc x.number) from rows to (let first = n.0 in omega (arith, first)) n.1
numbered_remove from (x ∷ rows) to (suc j) r n e = (n.0, numbered_remove (suc x.number) rows to j r n.1 e)

pub with_remove_same : (from : ℕ) (rows : List Row) (to j : ℕ) (r : Row) → Numbered from rows to → slice_get rows j ≡ Some r → row_with r.number (remove rows j) ≡ None
with_remove_same from [] to j r n e = cc
with_remove_same from (x ∷ rows) to zero r n e = let its : r.number ≡ x.number = ap (λ (z : Row). z.number) (sym (some_is x r e)) in with_none r.number (suc x.number) rows to (omega (arith, its)) n.1
with_remove_same from (x ∷ rows) to (suc j) r n e =
    first_not r.number x (row_with r.number (remove rows j)) (λ (same : r.number ≡ x.number). (let rest = above_at (suc x.number) rows to j r n.1 e in omega (arith, rest, same))) ∙ with_remove_same (suc x.number) rows to j r n.1 e

pub with_remove_other : (d : ℕ) (rows : List Row) (j : ℕ) (r : Row) → slice_get rows j ≡ Some r → d ≢ r.number → row_with d (remove rows j) ≡ row_with d rows
with_remove_other d [] j r e ne = cc
with_remove_other d (x ∷ rows) zero r e ne = sym (first_not d x (row_with d rows) (λ (q : d ≡ x.number). ne (q ∙ ap (λ (z : Row). z.number) (some_is x r e))))
with_remove_other d (x ∷ rows) (suc j) r e ne = ap (λ z. cond (d == x.number) (Some x) z) (with_remove_other d rows j r e ne)

-- ---- the row of a draft in the books

pub row_same : (b : Books) (d i j : ℕ) (r t : Row) → RowAt b d i r → RowAt b d j t → r ≡ t
row_same b d i j r t at its =
    let here : i ≡ j = same_place 0 b.rows.items b.next i j r t b.numbers at.there its.there (sym at.number ∙ its.number) in
    same_at b.rows.items j r t (subst (λ (z : ℕ). slice_get b.rows.items z ≡ Some r) here at.there) its.there

pub place_same : (b : Books) (d i j : ℕ) (r : Row) → RowAt b d i r → HasRowAt b d j → i ≡ j
place_same b d i j r at its = same_place 0 b.rows.items b.next i j r its.0 b.numbers at.there its.1.there (sym at.number ∙ its.1.number)

pub at_place : (b : Books) (d i j : ℕ) (r : Row) → RowAt b d i r → HasRowAt b d j → slice_get b.rows.items j ≡ Some r
at_place b d i j r at its = subst (λ (z : ℕ). slice_get b.rows.items z ≡ Some r) (place_same b d i j r at its) at.there

pub row_with_at : (b : Books) (d place : ℕ) (r : Row) → RowAt b d place r → row_with d b.rows.items ≡ Some r
row_with_at b d place r at = ap (λ (z : ℕ). row_with z b.rows.items) at.number ∙ with_at 0 b.rows.items b.next place r b.numbers at.there

pub row_at_with : (b : Books) (d : ℕ) (r : Row) → row_with d b.rows.items ≡ Some r → (place : ℕ) × RowAt b d place r
row_at_with b d r e = let p = at_with d b.rows.items r e in (p.0, record { number = p.2; there = p.1 })

pub row_place : (b : Books) (d place : ℕ) → IsRowPlace d b.rows.items (Some place) → HasRowAt b d place
row_place b d place p = (p.0, record { number = (at_with d b.rows.items p.0 p.2).2; there = p.1 })

-- the number of the row that changes
pub number_of : (v w : Books) (d place : ℕ) (m : Changes place v w) → HasRowAt v d place → d ≡ m.was.number
number_of v w d place m at = at.1.number ∙ ap (λ (z : Row). z.number) (same_at v.rows.items place at.0 m.was at.1.there m.there)
