-- Of the ends of the requests under one serial one alone leaves it to be retired.
use Rattle.std.proofs.Common.{◌≡◌, ◌⊎◌, inl, inr, ℕ, ◌≤◌, true, List, [], ◌∷◌, ◌++◌, Some, refl, sym, ap, subst, ◌∙◌, ⊎_elim, append_assoc, arith}
use Rattle.std.proofs.lemmas.List.{append-nil}
use mathlib.Core.List.{IsPrefix}
use Rattle.cd_legal.specs.declared.entry.Entry.TheVariants.{Finish, Retire}
use Rattle.cd_legal.specs.declared.entry.Signed.{Signed}
use Rattle.cd_legal.specs.declared.state.State.{State}
use Rattle.cd_legal.specs.Entry.{signed, entries}
use Rattle.cd_legal.specs.Legal.{state_at, may_retire, IsLegal}
use Rattle.cd_legal.specs.Signing.{IsHistory}
use Rattle.cd_legal.specs.State.{open_at, ticket_of}
use Rattle.cd_legal.proofs.Callers.{open_at-none, ticket-open}
use Rattle.cd_legal.proofs.Facts.{Retires, can}
use Rattle.cd_legal.proofs.Histories.{along, first}
use Rattle.cd_legal.proofs.Logs.{prefix_trans, snoc_same, state-append, legal-back, legal-front}
use Rattle.cd_gate.specs.declared.view.View.{View}
use Rattle.cd_gate.proofs.Longer.{longer_first, longer_second}
use Rattle.cd_gate.proofs.Tickets.{Freed, freed_by}
use Rattle.cd_hall.specs.Dues.{MayRetireAll}
use Rattle.cd_hall.specs.Turned.{Turned}
use Rattle.cd_hall.proofs.Rows.{either_one}

-- ---- lists

-- it is empty, or has a last element
ends_in : {A : Type 0} (xs : List A) → (xs ≡ []) ⊎ ((front : List A) × (last : A) × (xs ≡ front ++ last ∷ []))
ends_in [] = inl refl
ends_in {A} (x ∷ xs) = inr (⊎_elim
    (λ none. ([], x, ap (λ (l : List A). x ∷ l) none))
    (λ more. (x ∷ more.0, more.1, ap (λ (l : List A). x ∷ l) more.2)) (ends_in xs))

-- what begins a list with one element more begins the list, or is all of it
pub shorter : {A : Type 0} (xs ys : List A) (y : A) → IsPrefix xs (ys ++ y ∷ []) → IsPrefix xs ys ⊎ (xs ≡ ys ++ y ∷ [])
shorter {A} xs ys y p = ⊎_elim
    (λ none. inr (sym (append-nil xs) ∙ (ap (λ (l : List A). xs ++ l) (sym none) ∙ p.1)))
    (λ more. inl (more.0, (snoc_same (xs ++ more.0) ys more.1 y (append_assoc xs more.0 (more.1 ∷ []) ∙ (ap (λ (l : List A). xs ++ l) (sym more.2) ∙ p.1))).0)) (ends_in p.0)

-- one of two beginnings of one history begins the other
pub either_first : (xs ys zs : List Signed) → IsPrefix xs zs → IsPrefix ys zs → IsPrefix xs ys ⊎ IsPrefix ys xs
either_first xs ys zs p q = ⊎_elim
    (λ e. inr (subst (λ (l : List Signed). IsPrefix ys l) e (longer_second xs ys zs p q)))
    (λ e. inl (subst (λ (l : List Signed). IsPrefix xs l) e (longer_first xs ys))) (either_one xs ys zs p q)

-- ---- a serial that may be retired

module _ (n : ℕ) where
  pub freed : (s : State) → MayRetireAll s (n ∷ []) → Freed n s
  freed s may =
      let f : Retires s n = can s (Retire n) (first (may_retire s n) true may) in
      (f.superseded, open_at-none n s.tickets f.unticketed)

  pub freed_on : (seen log : List Signed) → IsPrefix seen log → IsLegal log → Freed n (state_at seen) → Freed n (state_at log)
  freed_on seen log p legal free =
      let more : List Signed = p.0 in
      let whole : IsLegal (seen ++ more) = subst (λ (l : List Signed). IsLegal l) (sym p.1) legal in
      subst (λ (l : List Signed). Freed n (state_at l)) p.1
      (subst (λ (s : State). Freed n s) (sym (state-append seen more)) (along (Freed n) (freed_by n) (state_at seen) (entries more) (legal-back seen more whole) free))

  -- no request ends under it any more
  pub none_ends : (k : ℕ) (s : State) → Freed n s → ticket_of k s.tickets ≡ Some n → ⊥
  none_ends k s free has = some_left (open_at n s.tickets) (ticket-open k n s.tickets has) free.1
    where
      some_left : (x : ℕ) → 1 ≤ x → x ≡ 0 → ⊥
      some_left x le e = absurd (omega arith)

  -- so the end that comes first is the last
  no_later : (seen other : List Signed) (last : Signed) (k : ℕ) → IsPrefix seen (other ++ last ∷ []) → IsLegal other → MayRetireAll (state_at seen) (n ∷ []) → ticket_of k (state_at other).tickets ≡ Some n → seen ≡ other ++ last ∷ []
  no_later seen other last k p legal may has = ⊎_elim
      (λ q. absurd (none_ends k (state_at other) (freed_on seen other q legal (freed (state_at seen) may)) has))
      (λ e. e) (shorter seen other last p)

  module _ {T : Type 0} where
    abbrev Ended : View T → View T → List Signed → Type 0
    Ended v w found = Turned v w found (Finish v.number ∷ [])

    one_of : (w x y : View T) (other log : List Signed) → Ended x y other → IsHistory log → IsPrefix y.seen log → IsPrefix w.seen y.seen → ticket_of x.number (state_at other).tickets ≡ Some n → MayRetireAll (state_at w.seen) (n ∷ []) → w.seen ≡ y.seen
    one_of w x y other log u history front p has may =
        let last : Signed = signed x.number (Finish x.number) in
        let before : IsPrefix other y.seen = (last ∷ [], sym u.is) in
        no_later w.seen other last x.number (subst (λ (l : List Signed). IsPrefix w.seen l) u.is p) (legal-front other log (prefix_trans other y.seen log before front) history.is_legal) may has ∙ sym u.is

pub one_end : {T : Type 0} (v w x y : View T) (found other log : List Signed) (n : ℕ) → Turned v w found (Finish v.number ∷ []) → Turned x y other (Finish x.number ∷ []) → IsHistory log → IsPrefix w.seen log → IsPrefix y.seen log
    → ticket_of v.number (state_at found).tickets ≡ Some n → ticket_of x.number (state_at other).tickets ≡ Some n → MayRetireAll (state_at w.seen) (n ∷ []) → MayRetireAll (state_at y.seen) (n ∷ []) → (found ≡ other) × (v.number ≡ x.number)
one_end v w x y found other log n t u history p q has also may_first may_second =
    let same : w.seen ≡ y.seen = ⊎_elim
    (λ r. one_of n w x y other log u history q r also may_first)
    (λ r. sym (one_of n y v w found log t history p r has may_second)) (either_first w.seen y.seen log p q) in
    let parts = snoc_same found other (signed v.number (Finish v.number)) (signed x.number (Finish x.number)) (sym t.is ∙ (same ∙ u.is)) in
    (parts.0, ap (λ (z : Signed). z.by) parts.1)
