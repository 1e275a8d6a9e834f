-- What a pass has after a call in a turn of its own.
use Rattle.std.proofs.Common.{◌≡◌, ℕ, zero, suc, Bool, List, [], ◌∷◌, ◌++◌, Option, Some, None, cond, eq-eqb, refl, sym, ap, ◌∙◌}
use Rattle.cd_legal.specs.declared.entry.Entry.{Entry}
use Rattle.cd_legal.specs.declared.state.State.{State}
use Rattle.cd_legal.specs.Owing.{Owes}
use Rattle.cd_legal.specs.Runs.{stopped_all, cleaned_all, ended_all, stopped_of, block_of, entries_for, made_in, started_in}
use Rattle.cd_legal.specs.State.{draft_of}
use Rattle.cd_gate.specs.declared.pass.Pass.{Pass}
use Rattle.cd_gate.specs.declared.view.View.{View}
use Rattle.cd_gate.specs.Duties.{without_number}
use Rattle.cd_gate.specs.Growing.{owes_after, Grows}
use Rattle.cd_gate.specs.Passes.{view}
use Rattle.cd_life.specs.declared.board.Board.{Board}
use Rattle.cd_hall.specs.declared.hall.Hall.{Hall}
use Rattle.cd_hall.specs.declared.hall.Ticket.{Ticket}
use Rattle.cd_hall.specs.Calls.{IsPassOf}
use Rattle.cd_hall.proofs.Requested.{ticket_stays}
use Rattle.cd_pair.specs.Passes.{Has, Runs}

abbrev pub owes : Option ℕ → Option ℕ → Owes
owes ticket draft = record { ticket = ticket; draft = draft }

-- ---- what a pass owes after these entries

stops-owe : (o : Owes) (d n : ℕ) → owes_after o (stopped_all d n) ≡ o
stops-owe o d zero = refl
stops-owe o d (suc n) = stops-owe o d n

cleans-owe : (o : Owes) (d n : ℕ) → owes_after o (cleaned_all d n) ≡ o
cleans-owe o d zero = refl
cleans-owe o d (suc n) = cleans-owe o d n

owes-append : (o : Owes) (es fs : List Entry) → owes_after o (es ++ fs) ≡ owes_after (owes_after o es) fs
owes-append o [] fs = refl
owes-append o (e ∷ es) fs = owes-append _ es fs

pub ends-owe : (o : Owes) (d made started : ℕ) → owes_after o (ended_all d made started) ≡ o
ends-owe o d made started = owes-append o (stopped_all d started) (cleaned_all d made) ∙ (ap (λ (p : Owes). owes_after p (cleaned_all d made)) (stops-owe o d started) ∙ cleans-owe o d made)

stopped-for : (o : Owes) (s : State) (d : Option ℕ) → owes_after o (entries_for (λ d. stopped_all d (started_in s d)) d) ≡ o
stopped-for o s None = refl
stopped-for o s (Some d) = stops-owe o d (started_in s d)

pub stopped-owe : (o : Owes) (s : State) (n : ℕ) → owes_after o (stopped_of s n) ≡ o
stopped-owe o s n = stopped-for o s (draft_of n s.published)

cleaned-for : (o : Owes) (s : State) (d : Option ℕ) → owes_after o (entries_for (λ d. cleaned_all d (made_in s d)) d) ≡ o
cleaned-for o s None = refl
cleaned-for o s (Some d) = cleans-owe o d (made_in s d)

pub block-owes : (o : Owes) (s : State) (n : ℕ) → owes_after o (block_of s n) ≡ o
block-owes o s n = cleaned-for o s (draft_of n s.published)

-- ---- the pass

module _ {A F B : Type 0} {g : _} (h : Hall A F B g) (p q : Pass (Board A F B g)) (k : ℕ) where
  pub goes : (a b c d : Option ℕ) (ds es : List ℕ) (made : List Entry)
      → Has h p k a b ds → IsPassOf h q → Grows (view p) (view q) made → owes_after (owes a b) made ≡ owes c d → (view q).duties ≡ es → Has h q k c d es
  goes a b c d ds es made was pass t leaves duties = record {
    pass = pass;
    number = ap (λ (z : View (Board A F B g)). z.number) t.same ∙ was.number;
    owes = t.owes ∙ (ap (λ (o : Owes). owes_after o made) was.owes ∙ leaves);
    duties = duties;
    root = λ first. (ap (λ (z : View (Board A F B g)). z.made) t.same ∙ (was.root first).0, ap (λ (z : View (Board A F B g)). z.joined) t.same ∙ (was.root first).1);
  }

  -- while its request runs
  pub runs-on : (t : Ticket A B g) (b d : Option ℕ) (made : List Entry)
      → Runs h p k t b → IsPassOf h q → Grows (view p) (view q) made → owes_after (owes (Some t.serial) b) made ≡ owes (Some t.serial) d → (view q).duties ≡ (view p).duties → Runs h q k t d
  runs-on t b d made was pass grows leaves same =
      let has = goes (Some t.serial) b (Some t.serial) d [] [] made was.has pass grows leaves (same ∙ was.has.duties) in
      record {
        has = has;
        ticket = ticket_stays (view p) (view q) t was.ticket grows.seen grows.history (ap (λ (o : Owes). o.ticket) has.owes ∙ sym (ap (λ (o : Owes). o.ticket) was.has.owes));
      }

-- a duty alone
pub without-own : (n : ℕ) → without_number n (n ∷ []) ≡ []
without-own n = ap (λ (b : Bool). cond b [] (n ∷ [])) (eq-eqb n n refl)
