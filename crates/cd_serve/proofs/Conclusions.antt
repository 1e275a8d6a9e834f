-- A request is ended: what its turn has found, and what follows.
use Rattle.std.proofs.Common.{◌≡◌, ◌<◌, ◌≤◌, ◌+◌, ◌∙◌, ◌++◌, ℕ, zero, suc, Bool, true, false, cond, List, [], ◌∷◌, length, Option, Some, None, refl, ap, sym, eq-eqb, arith}
use Rattle.std.specs.Prelude.{◌||◌}
use Rattle.std.proofs.lemmas.List.{append_assoc}
use mathlib.Core.List.{IsPrefix}
use Rattle.cd_legal.specs.declared.entry.Entry.TheVariants.{Finish}
use Rattle.cd_legal.specs.declared.entry.Signed.{Signed}
use Rattle.cd_legal.specs.declared.state.State.{State}
use Rattle.cd_legal.specs.Entry.{signed, entries}
use Rattle.cd_legal.specs.State.{has_number, ticket_of}
use Rattle.cd_legal.specs.Legal.{state_at}
use Rattle.cd_legal.specs.Owing.{Owes}
use Rattle.cd_legal.specs.Placed.{Placed}
use Rattle.cd_legal.specs.Runs.{entries_for, cleaned_all, made_in, block_of}
use Rattle.cd_legal.specs.Signing.{IsHistory}
use Rattle.cd_legal.proofs.Logs.{history-front}
use Rattle.cd_legal.proofs.Serials.{published-count}
use Rattle.cd_gate.specs.declared.view.View.{View}
use Rattle.cd_gate.specs.Duties.{without_number}
use Rattle.cd_gate.specs.Growing.{Places, owes_after}
use Rattle.cd_gate.specs.Words.{owed}
use Rattle.cd_gate.proofs.Grown.{places_both}
use Rattle.cd_hall.specs.Dues.{DueThen}
use Rattle.cd_hall.specs.Spread.{Spread}
use Rattle.cd_hall.specs.Turned.{Turned}
use Rattle.cd_hall.proofs.Spreading.{spread_history}
use Rattle.cd_serve.specs.Requests.{FinishesAfter, Concluded}
use Rattle.cd_serve.proofs.Due.{due-then, due-less}
use Rattle.cd_serve.proofs.Retirings.{block-stays}

-- a block leaves what a pass owes
cleaned_owes : (o : Owes) (d n : ℕ) → owes_after o (cleaned_all d n) ≡ o
cleaned_owes o d zero = refl
cleaned_owes o d (suc n) = cleaned_owes o d n

for_owes : (o : Owes) (made : ℕ → ℕ) (d : Option ℕ) → owes_after o (entries_for (λ d. cleaned_all d (made d)) d) ≡ o
for_owes o made None = refl
for_owes o made (Some d) = cleaned_owes o d (made d)

pub block_owes : (o : Owes) (s : State) (n : ℕ) → owes_after o (block_of s n) ≡ o
block_owes o s zero = refl
block_owes o s (suc n) = for_owes o (made_in s) _

low : (h : Bool) (len serial n : ℕ) → len + cond h 1 0 ≡ serial → n < serial → n ≤ len
low true len serial n is less = omega arith
low false len serial n is less = omega arith

same_head : (a b : ℕ) → a ∷ [] ≡ b ∷ [] → a ≡ b
same_head a b is = cc

module _ {T : Type 0} (v w : View T) (n : ℕ) (found : List Signed) where
  abbrev k : ℕ
  k = v.number

  abbrev pub last : Placed
  last = record { before = found; entry = Finish v.number }

  abbrev pub Ended : Type 0
  Ended = Turned v w found (Finish v.number ∷ [])

  stands : Ended → FinishesAfter v.seen last
  stands t = record {
    after = t.seen;
    legal = (history-front found w.seen (signed k (Finish k) ∷ [], sym t.is) t.grows.history).is_legal;
  }

  -- no duty came
  pub concluded_none : Ended → ticket_of v.number (state_at found).tickets ≡ Some n → Places v w (last ∷ []) → DueThen (state_at found) n [] → Concluded v w
  concluded_none t has places due = record {
    finish = last;
    block = [];
    places = places;
    finishes = refl;
    retires = due-then (state_at found) k n [] [] has due (λ none. refl) (λ one. absurd (let h : [] ≡ n ∷ [] = one in cc));
    stands = stands t;
  }

  -- one came, and was done in a later turn
  pub concluded_duty : (x : View T) (duty : ℕ) (later : List Signed) → Ended → ticket_of v.number (state_at found).tickets ≡ Some n → Places v w (last ∷ []) → DueThen (state_at found) n (duty ∷ []) → Spread w x later (block_of (state_at later) duty) → Concluded v x
  concluded_duty x duty later t has places due u =
      let begins : IsPrefix found later = (signed k (Finish k) ∷ u.seen.0, sym (append_assoc found (signed k (Finish k) ∷ []) u.seen.0) ∙ (ap (λ (l : List Signed). l ++ u.seen.0) (sym t.is) ∙ u.seen.1)) in
      let history : IsHistory later = spread_history w x later (block_of (state_at later) duty) u in
      let early = (history-front found later begins history).is_legal in
      let there : n < (state_at found).serial → n ≤ length (state_at found).published = low (state_at found).halted (length (state_at found).published) (state_at found).serial n (published-count (entries found) early) in
      let same : duty ∷ [] ≡ n ∷ [] → block_of (state_at later) duty ≡ block_of (state_at found) n =
      λ one. ap (λ (j : ℕ). block_of (state_at later) j) (same_head duty n one) ∙ block-stays found later n begins history.is_legal (there (due-less (state_at found) n duty due)) in
      record {
        finish = last;
        block = u.added;
        places = places_both v w x (last ∷ []) u.added places u.places;
        finishes = refl;
        retires = due-then (state_at found) k n u.added (duty ∷ []) has due (λ none. absurd (let h : duty ∷ [] ≡ [] = none in cc)) (λ one. u.are ∙ same one);
        stands = stands t;
      }

-- what the pass owes then
pub ended_ticket : {T : Type 0} (v w : View T) → owed w ≡ owes_after (owed v) (Finish v.number ∷ []) → w.ticket ≡ None
ended_ticket v w is = ap (λ (o : Owes). o.ticket) is

pub ended_draft : {T : Type 0} (v w : View T) → owed w ≡ owes_after (owed v) (Finish v.number ∷ []) → w.draft ≡ v.draft
ended_draft v w is = ap (λ (o : Owes). o.draft) is

pub retired_ticket : {T : Type 0} (v w : View T) (s : State) (n : ℕ) → owed w ≡ owes_after (owed v) (block_of s n) → w.ticket ≡ v.ticket
retired_ticket v w s n is = ap (λ (o : Owes). o.ticket) (is ∙ block_owes (owed v) s n)

pub retired_draft : {T : Type 0} (v w : View T) (s : State) (n : ℕ) → owed w ≡ owes_after (owed v) (block_of s n) → w.draft ≡ v.draft
retired_draft v w s n is = ap (λ (o : Owes). o.draft) (is ∙ block_owes (owed v) s n)

-- the one duty that came may be done, and none is left then
pub only_duty : (ds : List ℕ) (n : ℕ) → ds ≡ n ∷ [] → has_number n ds ≡ true
only_duty ds n is = ap (has_number n) is ∙ ap (λ (b : Bool). b || false) (eq-eqb n n refl)

pub none_left : (ds : List ℕ) (n : ℕ) → ds ≡ n ∷ [] → without_number n ds ≡ []
none_left ds n is = ap (without_number n) is ∙ ap (λ (b : Bool). cond b [] (n ∷ [])) (eq-eqb n n refl)
