-- Nothing is left of a desk after a history of which each draft is closed.
use Rattle.std.proofs.Common.{◌≡◌, ℕ, zero, suc, ◌+◌, ◌&&◌, Bool, true, false, nat_lt, List, [], ◌∷◌, refl, sym, ap, ◌∙◌, arith, Some, Option, slice_get}
use Rattle.std.specs.List.{list_all}
use Rattle.std.proofs.lemmas.Bool.Decides.{nat_tests}
use Rattle.std.proofs.lemmas.Bool.{eqb-true}
use Rattle.cd_outside.specs.declared.fixtures.FixtureCall.{FixtureCall}
use Rattle.cd_outside.specs.declared.holder.Holder.{Holder}
use Rattle.cd_outside.specs.declared.holder.Pair.{Pair}
use Rattle.cd_pool.specs.declared.lease.Leased.{Leased}
use Rattle.cd_pool.specs.Pairs.{pairs}
use Rattle.cd_legal.specs.declared.state.State.{State}
use Rattle.cd_legal.specs.declared.state.Drafted.{Drafted}
use Rattle.cd_legal.specs.Entry.{entries}
use Rattle.cd_legal.specs.State.{opening_state, holds, may_clean_instances, all_stopped}
use Rattle.cd_legal.specs.Legal.{state_at}
use Rattle.cd_legal.specs.Whole.{is_closed}
use Rattle.cd_legal.proofs.Histories.{both, first, second}
use Rattle.cd_legal.proofs.Counting.{made_of}
use Rattle.cd_legal.proofs.Ending.{ended_of}
use Rattle.cd_legal.proofs.Running.{runs, runs_in, all_run, run_from}
use Rattle.cd_legal.proofs.Serials.{legal-agree}
use Rattle.cd_desk.specs.declared.row.Row.{Row}
use Rattle.cd_desk.specs.declared.desk.Desk.{Desk}
use Rattle.cd_desk.specs.Trimming.{is_closed_row}
use Rattle.cd_desk.specs.Emptying.{HasEnded}
use Rattle.cd_desk.proofs.Placing.{draft_at}
use Rattle.cd_desk.proofs.Trims.{closed_shown}

-- ---- no pair is left

none_runs : (p e m : ℕ) → e ≡ m → nat_lt (p + e) m ≡ true → false ≡ true
none_runs p e m is low = absurd (grind (arith, nat_tests))

closed_equal : (app : Bool) (retired : List ℕ) (x : Drafted) → is_closed retired x ≡ true → ended_of app x ≡ made_of app x
closed_equal true retired x e = eqb-true x.stopped x.started (first (all_stopped x) _ (second (may_clean_instances retired x.life) _ e))
closed_equal false retired x e = eqb-true x.cleaned x.made (second (all_stopped x) _ (second (may_clean_instances retired x.life) _ e))

nobody : (h : Holder) (retired : List ℕ) (xs : List Drafted) (j : ℕ) → list_all (is_closed retired) xs ≡ true → holds (runs h.app h.place) (slice_get xs j) ≡ true → false ≡ true
nobody h retired [] j all is = is
nobody h retired (x ∷ xs) zero all is = none_runs h.place (ended_of h.app x) (made_of h.app x) (closed_equal h.app retired x (first (is_closed retired x) _ all)) is
nobody h retired (x ∷ xs) (suc j) all is = nobody h retired xs j (second (is_closed retired x) _ all) is

no_pair : (retired : List ℕ) (xs : List Drafted) (ps : List Pair) → list_all (is_closed retired) xs ≡ true → all_run xs ps ≡ true → ps ≡ []
no_pair retired xs [] all run = refl
no_pair retired xs (p ∷ ps) all run = absurd (let e : false ≡ true = nobody p.holder retired xs p.holder.draft all (first (runs_in p.holder xs) _ run) in cc)

none_held : (held : List Leased) → pairs held ≡ [] → held ≡ []
none_held [] e = refl
none_held (l ∷ held) e = cc

-- ---- each row is that of a closed draft

each_passes : (test : Drafted → Bool) (xs : List Drafted) (j : ℕ) (x : Drafted) → list_all test xs ≡ true → slice_get xs j ≡ Some x → test x ≡ true
each_passes test [] j x all is = cc
each_passes test (y ∷ xs) zero x all is = ap test (let e : x ≡ y = cc in e) ∙ first (test y) _ all
each_passes test (y ∷ xs) (suc j) x all is = each_passes test xs j x (second (test y) _ all) is

all_rows : (test : Row → Bool) (xs : List Row) → ((j : ℕ) (r : Row) → slice_get xs j ≡ Some r → test r ≡ true) → list_all test xs ≡ true
all_rows test [] each = refl
all_rows test (r ∷ xs) each = both (test r) _ (each 0 r refl) (all_rows test xs (λ j t is. each (suc j) t is))

pub last_row : (test : Row → Bool) (xs : List Row) (r : Row) → (list_all test xs && list_all test (r ∷ [])) ≡ true → test r ≡ true
last_row test xs r all = first (test r) _ (second (list_all test xs) _ all)

module _ {F : Type 0} (calls : F → Option (List FixtureCall)) (b : Desk F) (h : HasEnded calls b) where
  pub nothing_held : b.books.pool.held ≡ []
  nothing_held =
      let s : State = state_at h.1 in
      none_held b.books.pool.held (sym h.2.agrees.pairs ∙ no_pair s.retired s.drafts s.pairs h.3.closed (run_from opening_state (entries h.1) refl h.2.is_legal refl))

  pub all_closed : list_all is_closed_row b.books.rows.items ≡ true
  all_closed =
      let s : State = state_at h.1 in
      all_rows is_closed_row b.books.rows.items
      (λ j r there.
      (let sh = draft_at calls h.0 b s _ _ (legal-agree (entries h.1) h.2.is_legal) h.2.agrees j r there in
      sym (closed_shown s.retired r sh.draft sh.shows) ∙ each_passes (is_closed s.retired) s.drafts r.number sh.draft h.3.closed sh.is))
