-- A desk at which nothing has happened.
use Rattle.std.proofs.Common.{◌≡◌, ℕ, zero, suc, ◌+◌, List, [], ◌∷◌, ◌++◌, false, length, refl, sym, ap, ◌∙◌, arith, None, Option, slice_get, subst}
use Rattle.cd_outside.specs.declared.fixtures.FixtureCall.{FixtureCall}
use Rattle.cd_pool.specs.Pairs.{pairs}
use Rattle.cd_desk.specs.declared.desk.Desk.{Desk}
use Rattle.cd_desk.specs.Rows.{ShowsAt, row_with}
use Rattle.cd_desk.specs.Desks.{Holds, told_ticket, told_at, none_open}
use Rattle.cd_desk.proofs.Keeping.{calls_none}

pub none_more : (n : ℕ) → none_open n ++ None ∷ [] ≡ none_open (suc n)
none_more zero = refl
none_more (suc n) = ap (λ z. None ∷ z) (none_more n)

pub one_more : (n m : ℕ) (made now : List (Option ℕ)) → m ≡ n + 1 → made ≡ none_open n → now ≡ made ++ None ∷ [] → now ≡ none_open m
one_more n m made now next is pushed = pushed ∙ (ap (λ z. z ++ None ∷ []) is ∙ (none_more n ∙ ap none_open (let e : suc n ≡ m = omega arith in e)))

no_ticket : (n k : ℕ) → told_ticket (slice_get (none_open n) k) ≡ None
no_ticket zero k = refl
no_ticket (suc n) zero = refl
no_ticket (suc n) (suc k) = no_ticket n k

no_request : (s n : ℕ) → told_at s (none_open n) ≡ 0
no_request s zero = refl
no_request s (suc n) = let e = no_request s n in omega arith

pub length_none : (n : ℕ) → length (none_open n) ≡ n
length_none zero = refl
length_none (suc n) = ap suc (length_none n)

module _ {F : Type 0} (calls : F → Option (List FixtureCall)) where
  pub nothing_yet : (v : Desk F) (callers : ℕ) → v.serial ≡ 0 → v.halted ≡ false → v.begun ≡ 0 → v.opening_retired ≡ false → v.books.next ≡ 0 → v.books.rows.items ≡ [] → v.books.pool.held ≡ [] → v.tickets.by_caller.items ≡ none_open callers → Holds calls v v []
  nothing_yet v callers serial halted begun kept next rows held tickets = record {
    is_legal = refl;
    agrees = record {
      serial = sym serial;
      halted = sym halted;
      begun = sym begun;
      drafts = sym next;
      rows = λ d. subst (λ z. ShowsAt [] (row_with d z) None) (sym rows) tt;
      closed = λ d lt none. absurd (omega (arith, lt, next));
      retired = λ n has. cc;
      opening_retired = sym kept;
      pairs = sym (ap pairs held);
      tickets = λ k. sym (ap (λ z. told_ticket (slice_get z k)) tickets ∙ no_ticket callers k);
      at_serial = λ n. sym (ap (told_at n) tickets ∙ no_request n callers);
      callers = refl;
      told_on = calls_none (calls v.fixtures);
    };
  }
