-- What is done under a ticket, by who answers.
use Rattle.std.proofs.Common.{◌≡◌, ◌∙◌, ◌++◌, ◌||◌, ◌&&◌, ◌==◌, not, ℕ, ◌+◌, Bool, true, false, cond, List, [], ◌∷◌, Option, Some, None, inl, inr, refl, ap, sym, subst, eq-eqb}
use Rattle.std.specs.List.{list_any}
use Rattle.std.specs.Result.{IsOk}
use Rattle.std.specs.Arc.{arc_value}
use Rattle.std.proofs.lemmas.List.{append_assoc, append-nil, append_cancel_left, map-append}
use mathlib.Core.List.{IsPrefix}
use Rattle.cd_outside.specs.declared.address.Address.{Address}
use Rattle.cd_outside.specs.declared.past.KeepRecord.{KeepRecord}
use Rattle.cd_outside.specs.declared.past.Logged.{Logged}
use Rattle.cd_outside.specs.declared.past.Past.{Past}
use Rattle.cd_tree.specs.declared.tree.Tree.{Tree}
use Rattle.cd_tree.specs.Tree.{IsSound}
use Rattle.cd_tree.proofs.Inside.{null_sound}
use Rattle.cd_wire.specs.declared.answer.Answer.{Answer}
use Rattle.cd_wire.specs.declared.request.Request.{Request}
use Rattle.cd_legal.specs.declared.entry.Entry.{Entry}
use Rattle.cd_legal.specs.declared.entry.Entry.TheVariants.{Halt}
use Rattle.cd_legal.specs.declared.entry.Signed.{Signed}
use Rattle.cd_legal.specs.declared.state.State.{State}
use Rattle.cd_legal.specs.Entry.{signed, entries, mine}
use Rattle.cd_legal.specs.State.{Conf}
use Rattle.cd_legal.specs.Legal.{after, state_at, state_from}
use Rattle.cd_legal.specs.Placed.{Placed, placed, placed_entries, met}
use Rattle.cd_legal.specs.Serials.{is_halted}
use Rattle.cd_legal.proofs.Confs.{conf-halted}
use Rattle.cd_legal.proofs.Logs.{entries-append, mine-append, state-append, history-front}
use Rattle.cd_legal.proofs.Placed.{placed-entries}
use Rattle.cd_module_set.specs.Acts.{conf_acts}
use Rattle.cd_module_set.specs.declared.set.ModuleSet.{Ghosts}
use Rattle.cd_module_set.specs.declared.target.Target.TheVariants as who
use Rattle.cd_gate.specs.declared.view.View.{View}
use Rattle.cd_gate.specs.Growing.{Places}
use Rattle.cd_life.specs.declared.shares.Share.{Share}
use Rattle.cd_life.specs.declared.shares.Share.TheVariants as share
use Rattle.cd_life.specs.Shares.{conf_in, tree_in}
use Rattle.cd_hall.specs.declared.hall.Ticket.{Ticket}
use Rattle.cd_hall.specs.Tickets.{BeganWith}
use Rattle.cd_admin.specs.Answers.{done}
use Rattle.cd_admin.specs.Deciding.{replace, halt}
use Rattle.cd_admin.specs.Decisions.{IsServed}
use Rattle.cd_serve.specs.declared.attempting.Attempt.TheVariants as attempt
use Rattle.cd_serve.specs.declared.fault.ChangeFault.{ChangeFault}
use Rattle.cd_serve.specs.declared.fault.ChangeFault.TheVariants as fault
use Rattle.cd_serve.specs.declared.how.How.{How}
use Rattle.cd_serve.specs.declared.how.How.TheVariants as how
use Rattle.cd_serve.specs.Attempts.{Attempted, Works}
use Rattle.cd_serve.specs.Changes.{IsHalting}
use Rattle.cd_serve.specs.Meanings.{Meaning, nothing_sent, keeps_of, IsForNobody, IsAnswer, Decides}
use Rattle.cd_serve.specs.Faults.{fault_answer, halted_answer}
use Rattle.cd_serve.specs.Episodes.{Kind, Outcome, Answers, Replaces, Halts, conf_met, makes_change, is_halt, another_halted}
use Rattle.cd_serve.specs.Requests.{outcome_of, IsSent, IsBegun, FinishesAfter, EndsIn, Acted, ActedQuietly}
use Rattle.cd_serve.proofs.Answered.{kind_of, answers-made, answers-refused, again-superseded}
use Rattle.cd_serve.proofs.Halts.{halted-by-another}
use Rattle.cd_serve.proofs.Sends.{ends-sent}
use Rattle.cd_serve.proofs.Spending.{drafts-stay-spent}
use Rattle.cd_serve.proofs.Told.{nothing-sent}

-- the tree of a configuration that is shared is sound, and is null or has no fault
module _ {S C : Type 0} {set : Ghosts S C} where
  pub share-sound : (s : Share S C set) → IsSound (tree_in s)
  share-sound (share.Opening nothing) = subst (λ (t : Tree). IsSound t) (sym (arc_value nothing).null) null_sound
  share-sound (share.Halted nothing) = subst (λ (t : Tree). IsSound t) (sym (arc_value nothing).null) null_sound
  share-sound (share.Running loaded) = (arc_value loaded).sound

  pub share-served : (s : Share S C set) → IsServed set.plan (tree_in s)
  share-served (share.Opening nothing) = inl (arc_value nothing).null
  share-served (share.Halted nothing) = inl (arc_value nothing).null
  share-served (share.Running loaded) = inr (subst IsOk (sym (arc_value loaded).planned) refl)

-- a request runs under the halted configuration exactly where its Begin has met the host halted
pub begun-halted : {T A B : Type 0} {g : _} (v : View T) (t : Ticket A B g) (b : IsBegun v t) → is_halted (conf_in t.share) ≡ (met b.begin).halted
begun-halted v t b =
    let front : IsPrefix b.begin.before v.seen = (signed v.number b.begin.entry ∷ b.since, sym b.stands) in
    sym (ap is_halted b.with_ticket.conf_is) ∙ conf-halted (entries b.begin.before) (history-front b.begin.before v.seen front b.history).is_legal

-- ---- a halt stays

halt_stays : (s : State) (e : Entry) → s.halted ≡ true → (after s e).halted ≡ true
halt_stays s (Halt n) is = refl
halt_stays s e is = is

halt_stays-from : (s : State) (log : List Entry) → s.halted ≡ true → (state_from s log).halted ≡ true
halt_stays-from s [] is = is
halt_stays-from s (e ∷ es) is = halt_stays-from (after s e) es (halt_stays s e is)

pub halt-stays : (front log : List Signed) → IsPrefix front log → (state_at front).halted ≡ true → (state_at log).halted ≡ true
halt-stays front log p is =
    ap (λ (l : List Signed). (state_at l).halted) (sym p.1)
    ∙ (ap (λ (s : State). s.halted) (state-append front p.0) ∙ halt_stays-from (state_at front) (entries p.0) is)

or-stays : (b c d : Bool) → (c ≡ true → d ≡ true) → (b || c) ≡ true → (b || d) ≡ true
or-stays true c d goes is = refl
or-stays false c d goes is = goes is

another-stays : (k : ℕ) (front more : List Signed) → another_halted k front ≡ true → another_halted k (front ++ more) ≡ true
another-stays k [] more is = absurd (let h : false ≡ true = is in cc)
another-stays k (x ∷ xs) more is = or-stays (is_halt x.entry && not (x.by == k)) (another_halted k xs) (another_halted k (xs ++ more)) (another-stays k xs more) is

-- of what it has seen since a pass has signed what it made
pub made-since : {T : Type 0} (v x : View T) (added : List Placed) (p : Places v x added) → entries (mine v.number p.seen.0) ≡ placed_entries added
made-since v x added p =
    let k = v.number in
    let late : List Signed = p.seen.0 in
    let same : entries (mine k v.seen) ++ entries (mine k late) ≡ entries (mine k v.seen) ++ placed_entries added =
    sym (entries-append (mine k v.seen) (mine k late))
    ∙ (ap entries (sym (mine-append k v.seen late) ∙ ap (λ (l : List Signed). mine k l) p.seen.1)
    ∙ (sym (placed-entries k x.seen)
    ∙ (ap placed_entries p.placed_is
    ∙ (map-append (λ (q : Placed). q.entry) (placed k v.seen) added ∙ ap (λ (es : List Entry). es ++ placed_entries added) (placed-entries k v.seen))))) in
    append_cancel_left (entries (mine k v.seen)) (entries (mine k late)) (placed_entries added) same

-- where the host ran when the request of the pass began, and the pass has made no entry since, and finds the host halted, another one
-- has halted it
pub another-since : {T A B : Type 0} {g : _} (v x : View T) (t : Ticket A B g) → IsBegun v t → Places v x [] → is_halted (conf_in t.share) ≡ false → (state_at x.seen).halted ≡ true → another_halted v.number x.seen ≡ true
another-since v x t b p running halted =
    let k = v.number in
    let begin : Signed = signed k b.begin.entry in
    let rest : List Signed = p.seen.0 in
    let late : List Signed = (begin ∷ b.since) ++ rest in
    let all : b.begin.before ++ late ≡ x.seen = sym (append_assoc b.begin.before (begin ∷ b.since) rest) ∙ (ap (λ (l : List Signed). l ++ rest) (sym b.stands) ∙ p.seen.1) in
    let own : mine k (begin ∷ b.since) ≡ begin ∷ [] = ap (λ (c : Bool). cond c (begin ∷ mine k b.since) (mine k b.since)) (eq-eqb k k refl) ∙ ap (λ (l : List Signed). begin ∷ l) b.alone in
    let made : entries (mine k late) ≡ b.begin.entry ∷ [] =
    ap entries (mine-append k (begin ∷ b.since) rest) ∙ (entries-append (mine k (begin ∷ b.since)) (mine k rest) ∙ (ap (λ (es : List Entry). entries (mine k (begin ∷ b.since)) ++ es) (made-since v x [] p) ∙ (append-nil (entries (mine k (begin ∷ b.since))) ∙ ap entries own))) in
    let none : list_any is_halt (entries (mine k late)) ≡ false = ap (λ (es : List Entry). list_any is_halt es) made ∙ ap (λ (e : Entry). is_halt e || false) b.begins in
    ap (λ (l : List Signed). another_halted k l) (sym all)
    ∙ halted-by-another k b.begin.before late (sym (begun-halted v t b) ∙ running) (ap (λ (l : List Signed). (state_at l).halted) all ∙ halted) none

module _ (m : Meaning) (at : Address) (q : Request) (conf : Conf) (serial : ℕ) where
  -- ---- without an entry

  unanswered-so : (k : ℕ) (begin finish : Placed) (halted : Bool) → IsForNobody m (conf_met begin) at q → is_halted (conf_met begin) ≡ halted → EndsIn m k at q (Some (cond halted Outcome.halted Outcome.dropped)) begin [] finish nothing_sent
  unanswered-so k begin finish true there is = (there, is, refl, refl)
  unanswered-so k begin finish false there is = (there, is, refl, refl)

  -- nobody answers, there or anywhere
  pub quiet-unanswered : (h : How) (told : Option Past) → (conf_acts m.acts conf).target at ≡ who.Nobody → outcome_of h ≡ Some (cond (is_halted conf) Outcome.halted Outcome.dropped) → ActedQuietly m at q conf serial h told told
  quiet-unanswered h told there is = record {
    what = nothing_sent;
    past = nothing-sent told;
    is = λ k seen begin finish b f.
        subst (λ (o : Option Outcome). EndsIn m k at q o begin [] finish nothing_sent) (sym is)
        (unanswered-so k begin finish (is_halted conf) (subst (λ (c : Conf). IsForNobody m c at q) (sym b.conf_is) there) (ap is_halted b.conf_is));
  }

  pub quiet-lacking : (told : Option Past) → ActedQuietly m at q conf serial how.NoMemory told told
  quiet-lacking told = record { what = nothing_sent; past = nothing-sent told; is = λ k seen begin finish b f. (inr refl, refl) }

  pub quiet-answer : (r : Answer) (all : List Logged) (h : How) (old new : Option Past) → IsAnswer m conf at q r all → IsSent h q r all [] old new → ActedQuietly m at q conf serial h old new
  quiet-answer r all h old new a s = record {
    what = s.what;
    past = s.past;
    is = λ k seen begin finish b f.
        ends-sent m k at q Kind.served begin [] finish r all [] h s.what (subst (λ (c : Conf). IsAnswer m c at q r all) (sym b.conf_is) a, refl, refl) s.is (λ e. refl);
  }

  -- ---- with entries

  module _ {T : Type 0} (v w : View T) where
    acted-kind : (kind : Kind) (work : List Placed) (r : Answer) (keeps : List KeepRecord) (h : How) (old new : Option Past) → Places v w work
        → ((begin finish : Placed) → BeganWith conf serial begin → FinishesAfter w.seen finish → Answers m v.number at q kind begin work finish r [] keeps)
        → IsSent h q r [] keeps old new → (h ≡ how.NoMemory → makes_change kind ≡ false) → Acted m at q conf serial (Some h) v w old new
    acted-kind kind work r keeps h old new p answers s made = record {
      work = work;
      what = s.what;
      places = p;
      past = s.past;
      is = λ begin finish b f. ends-sent m v.number at q kind begin work finish r [] keeps h s.what (answers begin finish b f) s.is made;
    }

    -- no change that was made lacked the memory for its answer
    has-memory : (h : How) (kind : Kind) → ¬ (h ≡ how.NoMemory) → h ≡ how.NoMemory → makes_change kind ≡ false
    has-memory h kind made is = absurd (made is)

    refused-kind : (why : ChangeFault) → makes_change (kind_of why) ≡ false
    refused-kind (fault.CannotOpen key) = refl
    refused-kind (fault.StillInUse n) = refl
    refused-kind fault.NoSerialLeft = refl
    refused-kind fault.NoDraftLeft = refl

    replaces : (tree : Tree) (begin : Placed) → Decides m conf at q (replace tree) → BeganWith conf serial begin → Replaces m v.number at q begin tree
    replaces tree begin d b = subst (λ (c : Conf). Decides m c at q (replace tree)) (sym b.conf_is) d

    pub acted-published : (tree : Tree) (work : List Placed) (h : How) (old new : Option Past) → Decides m conf at q (replace tree) → Works v w work → Attempted m tree q v.number serial (state_at w.seen) work attempt.Published
        → IsSent h q done [] (keeps_of (serial + 1) tree) old new → ¬ (h ≡ how.NoMemory) → Acted m at q conf serial (Some h) v w old new
    acted-published tree work h old new d p a s made =
        acted-kind Kind.changed work done (keeps_of (serial + 1) tree) h old new p.places
        (λ begin finish b f. answers-made m v.number at q tree serial (state_at w.seen) begin finish work (replaces tree begin d b) b.serial_is a) s (has-memory h Kind.changed made)

    pub acted-refused : (tree : Tree) (why : ChangeFault) (work : List Placed) (h : How) (old new : Option Past) → Decides m conf at q (replace tree) → Works v w work → Attempted m tree q v.number serial (state_at w.seen) work (attempt.Refused why)
        → IsSent h q (fault_answer why) [] [] old new → Acted m at q conf serial (Some h) v w old new
    acted-refused tree why work h old new d p a s =
        acted-kind (kind_of why) work (fault_answer why) [] h old new p.places
        (λ begin finish b f.
        answers-refused m v.number at q tree serial (state_at w.seen) begin finish work (replaces tree begin d b) b.serial_is why a
        (λ full. drafts-stay-spent w.seen finish.before f.after f.legal full)) s (λ e. refused-kind why)

    pub acted-superseded : (tree : Tree) (work : List Placed) (told : Option Past) → Decides m conf at q (replace tree) → Works v w work → Attempted m tree q v.number serial (state_at w.seen) work attempt.Superseded
        → Acted m at q conf serial None v w told told
    acted-superseded tree work told d p a = record {
      work = work;
      what = nothing_sent;
      places = p.places;
      past = nothing-sent told;
      is = (λ begin finish b f. again-superseded m v.number at q tree serial (state_at w.seen) begin finish work (replaces tree begin d b) b.serial_is a, refl);
    }

    pub acted-lacking : (work : List Placed) (told : Option Past) → Works v w work → work ≡ [] → Acted m at q conf serial (Some how.NoMemory) v w told told
    acted-lacking work told p none = record {
      work = [];
      what = nothing_sent;
      places = subst (λ (z : List Placed). Places v w z) none p.places;
      past = nothing-sent told;
      is = λ begin finish b f. (inr refl, refl);
    }

    halts : (begin : Placed) → Decides m conf at q halt → BeganWith conf serial begin → Halts m v.number at q begin
    halts begin d b = subst (λ (c : Conf). Decides m c at q halt) (sym b.conf_is) d

    pub acted-halted : (work : List Placed) (h : How) (old new : Option Past) → Decides m conf at q halt → Works v w work → IsHalting work → IsSent h q halted_answer [] [] old new → ¬ (h ≡ how.NoMemory) → Acted m at q conf serial (Some h) v w old new
    acted-halted work h old new d p is s made =
        acted-kind Kind.halting work halted_answer [] h old new p.places (λ begin finish b f. (halts begin d b, is, refl, refl, refl)) s (has-memory h Kind.halting made)

    runs : (d : Decides m conf at q halt) → is_halted conf ≡ false
    runs d = ap is_halted d.runs

    pub acted-halted_before : (told : Option Past) → Decides m conf at q halt → Works v w [] → (is_halted conf ≡ false → another_halted v.number w.seen ≡ true) → Acted m at q conf serial None v w told told
    acted-halted_before told d p others =
        let another : another_halted v.number w.seen ≡ true = others (runs d) in record {
          work = [];
          what = nothing_sent;
          places = p.places;
          past = nothing-sent told;
          is = (λ begin finish b f. inr (halts begin d b, refl, ap (λ (l : List Signed). another_halted v.number l) (sym f.after.1) ∙ another-stays v.number w.seen f.after.0 another), refl);
        }
