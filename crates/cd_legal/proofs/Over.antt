-- What is over is whole.
use Rattle.std.proofs.Common.{◌≡◌, ◌≢◌, ℕ, ◌+◌, zero, suc, Bool, true, false, ◌&&◌, not, cond, nat_lt, List, [], ◌∷◌, slice_get, refl, sym, ap, subst, ◌∙◌, ⊎_elim, arith}
use Rattle.std.specs.Prelude.{◌||◌}
use Rattle.std.specs.List.{list_all}
use Rattle.std.proofs.lemmas.Bool.Decides.{nat_tests, eqb_tells}
use Rattle.std.proofs.lemmas.Bool.{eqb-true}
use Rattle.cd_outside.specs.declared.holder.Holder.{Holder}
use Rattle.cd_outside.specs.declared.holder.Pair.{Pair}
use Rattle.cd_outside.specs.Keys.{key_count}
use Rattle.cd_legal.specs.declared.entry.Entry.{Entry}
use Rattle.cd_legal.specs.declared.state.State.{State}
use Rattle.cd_legal.specs.declared.state.Drafted.{Drafted}
use Rattle.cd_legal.specs.declared.state.Life.{Life}
use Rattle.cd_legal.specs.declared.state.Life.TheVariants.{Live, Published, Abandoned}
use Rattle.cd_legal.specs.State.{opening_state, holds, has_number, is_live, may_clean_instances, all_stopped, all_cleaned}
use Rattle.cd_legal.specs.Legal.{legal, state_of}
use Rattle.cd_legal.specs.Whole.{IsWhole, IsOver, nothing_left_of, all_retired}
use Rattle.cd_legal.proofs.Histories.{both, first, second}
use Rattle.cd_legal.proofs.Counting.{made_of, begun_by, begun-state, begun-once}
use Rattle.cd_legal.proofs.Sound.{is_below, is_sound, is_unended_if_live, bound_of, are_sound, sound_from}
use Rattle.cd_legal.proofs.Ending.{ended_of, past, ended_by, ended-state}
use Rattle.cd_legal.proofs.Running.{runs, runs_in, all_run, run_from}

lower : (n m : ℕ) → nat_lt n (suc m) ≡ true → n ≢ m → nat_lt n m ≡ true
lower n m low ne = grind (arith, nat_tests)

none_below : (n : ℕ) → nat_lt n 0 ≡ true → false ≡ true
none_below n low = absurd (grind (arith, nat_tests))

-- each serial below is retired
retired_below : (retired : List ℕ) (n m : ℕ) → all_retired m retired ≡ true → nat_lt n m ≡ true → has_number n retired ≡ true
retired_below retired n zero all low = absurd (let e = none_below n low in cc)
retired_below retired n (suc m) all low = ⊎_elim
    (λ q. ap (λ z. has_number z retired) q.1 ∙ first (has_number m retired) _ all)
    (λ q. retired_below retired n m (second (has_number m retired) _ all) (lower n m low q.1)) (eqb_tells n m)

-- what is asked of a draft that is done with
finished : (b q : Bool) → b ≡ true → (not b || q) ≡ true → q ≡ true
finished true q is e = e
finished false q is e = cc

-- a draft of a state in which all is over
abbrev is_ended : Drafted → Bool
is_ended x = all_stopped x && all_cleaned x

-- a draft that is not live is done with where all serials are retired: so nothing of it is left
ends : (serial : ℕ) (retired : List ℕ) → all_retired serial retired ≡ true → (l : Life) (q : Bool) → not (is_live l) ≡ true → is_below serial l ≡ true → (not (may_clean_instances retired l) || q) ≡ true → q ≡ true
ends serial retired all Live q gone low e = cc
ends serial retired all (Published n) q gone low e = finished (has_number n retired) q (retired_below retired n serial all low) e
ends serial retired all Abandoned q gone low e = e

-- so of each draft
all_end : (serial : ℕ) (retired : List ℕ) → all_retired serial retired ≡ true → (xs : List Drafted) → list_all (λ x. not (is_live x.life)) xs ≡ true → list_all (is_sound serial) xs ≡ true → list_all (nothing_left_of retired) xs ≡ true → list_all is_ended xs ≡ true
all_end serial retired all [] gone fine done = refl
all_end serial retired all (x ∷ xs) gone fine done =
    both (is_ended x) _
    (ends serial retired all x.life (is_ended x) (first (not (is_live x.life)) _ gone) (second (is_unended_if_live x) _ (first (is_sound serial x) _ fine)) (first (nothing_left_of retired x) _ done))
    (all_end serial retired all xs (second (not (is_live x.life)) _ gone) (second (is_sound serial x) _ fine) (second (nothing_left_of retired x) _ done))

-- after the halt
bound : (s : State) → s.halted ≡ true → bound_of s ≡ s.serial
bound s halted = ap (λ (b : Bool). cond b s.serial (s.serial + 1)) halted

-- ---- what is made of such a draft is ended

-- where all are ended, what was made is ended
all_past : (p m e : ℕ) → e ≡ m → past p m e ≡ cond (nat_lt p m) 1 0
all_past p m e is = grind (arith, nat_tests)

-- of such a draft as many are ended as were made
ended_equal : (app : Bool) (x : Drafted) → is_ended x ≡ true → ended_of app x ≡ made_of app x
ended_equal true x e = eqb-true x.stopped x.started (first (all_stopped x) _ e)
ended_equal false x e = eqb-true x.cleaned x.made (second (all_stopped x) _ e)

-- what the state has made it has ended
same_count : (h : Holder) (xs : List Drafted) (j : ℕ) → list_all is_ended xs ≡ true → ended_by h.app h.place (slice_get xs j) ≡ begun_by h.app h.place (slice_get xs j)
same_count h [] j all = refl
same_count h (x ∷ xs) zero all = all_past h.place (made_of h.app x) (ended_of h.app x) (ended_equal h.app x (first (is_ended x) _ all))
same_count h (x ∷ xs) (suc j) all = same_count h xs j (second (is_ended x) _ all)

-- where all are ended, none runs
none_runs : (p e m : ℕ) → e ≡ m → nat_lt (p + e) m ≡ true → false ≡ true
none_runs p e m is low = absurd (grind (arith, nat_tests))

-- so no holder names one that runs
nobody : (h : Holder) (xs : List Drafted) (j : ℕ) → list_all is_ended xs ≡ true → holds (runs h.app h.place) (slice_get xs j) ≡ true → false ≡ true
nobody h [] j all is = is
nobody h (x ∷ xs) zero all is = none_runs h.place (ended_of h.app x) (made_of h.app x) (ended_equal h.app x (first (is_ended x) _ all)) is
nobody h (x ∷ xs) (suc j) all is = nobody h xs j (second (is_ended x) _ all) is

-- and there is no pair
no_pair : (xs : List Drafted) (ps : List Pair) → list_all is_ended xs ≡ true → all_run xs ps ≡ true → ps ≡ []
no_pair xs [] all run = refl
no_pair xs (p ∷ ps) all run = absurd (let e : false ≡ true = nobody p.holder xs p.holder.draft all (first (runs_in p.holder xs) _ run) in cc)

-- a legal history that leaves all over is whole
pub over-whole : (log : List Entry) → legal log ≡ true → IsOver (state_of log) → IsWhole log
over-whole log legal_log over =
    let s : State = state_of log in
    let fine : are_sound s ≡ true = sound_from opening_state log legal_log refl in
    let below : list_all (is_sound s.serial) s.drafts ≡ true = subst (λ (b : ℕ). list_all (is_sound b) s.drafts ≡ true) (bound s over.halted) fine in
    let all : list_all is_ended s.drafts ≡ true = all_end s.serial s.retired over.retired s.drafts over.drafts below over.finished in
    let pairs : s.pairs ≡ [] = no_pair s.drafts s.pairs all (run_from opening_state log refl legal_log refl) in
    record {
      once = λ h. begun-once h log legal_log;
      ended = λ h. ended-state h log legal_log ∙ (same_count h s.drafts h.draft all ∙ sym (begun-state h log legal_log));
      free = λ key. ap (key_count key) pairs;
    }
