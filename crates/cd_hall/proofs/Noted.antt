-- What the entries that a pass makes in its turn leave.
use Rattle.std.proofs.Common.{◌≡◌, ◌<◌, ◌≤◌, ℕ, ◌+◌, ◌==◌, Bool, true, false, cond, List, [], ◌∷◌, ◌++◌, slice_get, Some, None, refl, sym, ap, subst, ◌∙◌, eq-eqb, ne_eqb, arith}
use Rattle.std.specs.List.{list_all}
use Rattle.std.proofs.lemmas.Bool.{eqb-true}
use mathlib.Core.List.{IsPrefix}
use Rattle.cd_legal.specs.declared.entry.Entry.{Entry}
use Rattle.cd_legal.specs.declared.entry.Entry.TheVariants.{Publish, Abandon, Stopped, Retire, Cleaned, Halt}
use Rattle.cd_legal.specs.declared.entry.Change.{Change}
use Rattle.cd_legal.specs.declared.entry.Signed.{Signed}
use Rattle.cd_legal.specs.declared.state.State.{State}
use Rattle.cd_legal.specs.declared.state.Drafted.{Drafted}
use Rattle.cd_legal.specs.declared.state.Life.TheVariants.{Live}
use Rattle.cd_legal.specs.Entry.{entries}
use Rattle.cd_legal.specs.Laws.{core_at}
use Rattle.cd_legal.specs.State.{holds, has_number, is_ticketed, ticket_of, open_at, apps_stopped}
use Rattle.cd_legal.specs.Legal.{allowed, legal_from, state_from, state_at, may_retire, IsLegal}
use Rattle.cd_legal.specs.Owing.{Owes, owes_by}
use Rattle.cd_legal.specs.Runs.{ended_all, stopped_of, cleaned_of, block_of}
use Rattle.cd_legal.specs.Signing.{may_sign}
use Rattle.cd_legal.specs.Whole.{all_apps_stopped, nothing_left}
use Rattle.cd_legal.proofs.Callers.{is_ticketed-none, ticket-open}
use Rattle.cd_legal.proofs.Facts.{less-is, not-false}
use Rattle.cd_legal.proofs.Histories.{both, first, second}
use Rattle.cd_legal.proofs.Logs.{prefix_trans, state-append, legal-back}
use Rattle.cd_legal.proofs.Owed.{owed-ticket}
use Rattle.cd_legal.proofs.Serials.{Agree, legal-agree, retired-below, serial-rises}
use Rattle.cd_gate.specs.declared.view.View.{View}
use Rattle.cd_gate.specs.Duties.{duties_after, more_due, without_number}
use Rattle.cd_gate.specs.Growing.{all_signed, owes_after}
use Rattle.cd_gate.specs.Knowing.{Knows}
use Rattle.cd_gate.specs.Steps.{may_note, settled}
use Rattle.cd_gate.specs.Tables.{FoundInTurn}
use Rattle.cd_gate.specs.Words.{owed}
use Rattle.cd_hall.specs.Dues.{DueLater}
use Rattle.cd_hall.specs.GoesOn.{GoesOn, Settles, duties_left}
use Rattle.cd_hall.proofs.Bare.{left_core, serial_alike, retired_alike, stopped_alike}
use Rattle.cd_hall.proofs.Cores.{history-core}
use Rattle.cd_hall.proofs.DueThen.{duty_may}
use Rattle.cd_hall.proofs.Ended.{stopped_at}
use Rattle.cd_hall.proofs.Endings.{is_ending, all_end}
use Rattle.cd_hall.proofs.Leftovers.{abandon_left, publish_left, halt_left, retire_left, cleaned_of_ends}
use Rattle.cd_hall.proofs.Unended.{are_unended, legal-unended}

entries_signed : (k : ℕ) (es : List Entry) → entries (all_signed k es) ≡ es
entries_signed k [] = refl
entries_signed k (e ∷ es) = ap (λ (l : List Entry). e ∷ l) (entries_signed k es)

-- what stops apps or cleans instances leaves duties, and what the pass owes
ending_duties : (ds : List ℕ) (e : Entry) → is_ending e ≡ true → duties_after ds e ≡ ds
ending_duties ds (Stopped d a) is = refl
ending_duties ds (Cleaned d i) is = refl
ending_duties ds e is = absurd (let h : false ≡ true = is in cc)

pub endings_duties : (ds : List ℕ) (es : List Entry) → list_all is_ending es ≡ true → duties_left ds es ≡ ds
endings_duties ds [] all = refl
endings_duties ds (e ∷ es) all = ap (λ (l : List ℕ). duties_left l es) (ending_duties ds e (first (is_ending e) _ all)) ∙ endings_duties ds es (second (is_ending e) _ all)

ending_owes : (o : Owes) (e : Entry) → is_ending e ≡ true → owes_by o e ≡ o
ending_owes o (Stopped d a) is = refl
ending_owes o (Cleaned d i) is = refl
ending_owes o e is = absurd (let h : false ≡ true = is in cc)

endings_owe : (o : Owes) (es : List Entry) → list_all is_ending es ≡ true → owes_after o es ≡ o
endings_owe o [] all = refl
endings_owe o (e ∷ es) all = ap (λ (p : Owes). owes_after p es) (ending_owes o e (first (is_ending e) _ all)) ∙ endings_owe o es (second (is_ending e) _ all)

pub more_is : (b : Bool) (n : ℕ) (ds : List ℕ) → more_due b n ds ≡ cond b (n ∷ []) [] ++ ds
more_is true n ds = refl
more_is false n ds = refl

module _ {T : Type 0} where
  -- ---- what a pass may note

  pub may_end : (v : View T) (e : Entry) → is_ending e ≡ true → allowed (state_at v.seen) e ≡ true → may_note v e ≡ true
  may_end v (Stopped d a) is may = both (allowed (state_at v.seen) (Stopped d a)) true may refl
  may_end v (Cleaned d i) is may = both (allowed (state_at v.seen) (Cleaned d i)) true may refl
  may_end v e is may = absurd (let h : false ≡ true = is in cc)

  pub may_retire_it : (v : View T) (n : ℕ) → has_number n v.duties ≡ true → may_note v (Retire n) ≡ true
  may_retire_it v n due = both (has_number n v.duties) true due refl

  pub owns : (v : View T) (d : ℕ) → v.draft ≡ Some d → may_sign v.number (owed v) (Abandon d) ≡ true
  owns v d own = ap (holds (λ z. z == d)) own ∙ eq-eqb d d refl

  pub may_abandon : (v : View T) (d : ℕ) → allowed (state_at v.seen) (Abandon d) ≡ true → v.draft ≡ Some d → may_note v (Abandon d) ≡ true
  may_abandon v d may own = both (allowed (state_at v.seen) (Abandon d)) _ may (owns v d own)

  -- ---- what a pass knows, without requests

  pub agrees : (v : View T) → Knows v → Agree (state_at (core_at v.seen))
  agrees v k = legal-agree (entries (core_at v.seen)) (history-core v.seen k.history).is_legal

  pub unended_at : (v : View T) → Knows v → are_unended (state_at (core_at v.seen)) ≡ true
  unended_at v k = legal-unended (entries (core_at v.seen)) (history-core v.seen k.history).is_legal

  pub left_at : (v : View T) → nothing_left (state_at v.seen) ≡ true → nothing_left (state_at (core_at v.seen)) ≡ true
  left_at v left = left_core v.seen ∙ left

  pub state_goes : (v w : View T) (es : List Entry) → GoesOn v w es → state_at (core_at w.seen) ≡ state_from (state_at (core_at v.seen)) es
  state_goes v w es g = ap state_at g.core_is ∙ (state-append (core_at v.seen) (all_signed v.number es) ∙ ap (state_from (state_at (core_at v.seen))) (entries_signed v.number es))

  pub legal_goes : (v w : View T) (es : List Entry) → GoesOn v w es → legal_from (state_at (core_at v.seen)) es ≡ true
  legal_goes v w es g =
      ap (legal_from (state_at (core_at v.seen))) (sym (entries_signed v.number es))
      ∙ legal-back (core_at v.seen) (all_signed v.number es) (subst (λ (l : List Signed). IsLegal l) g.core_is (history-core w.seen g.since.history).is_legal)

  left_goes : (v w : View T) (es : List Entry) → GoesOn v w es → nothing_left (state_from (state_at (core_at v.seen)) es) ≡ true → nothing_left (state_at w.seen) ≡ true
  left_goes v w es g left = sym (left_core w.seen) ∙ (ap nothing_left (state_goes v w es g) ∙ left)

  front_goes : (v w : View T) (es : List Entry) → GoesOn v w es → IsPrefix v.seen w.seen
  front_goes v w es g = prefix_trans v.seen g.found w.seen g.since.seen g.since.after

  pub rises : (v w : View T) (es : List Entry) (n : ℕ) → GoesOn v w es → n < (state_at v.seen).serial → n < (state_at w.seen).serial
  rises v w es n g low = let up = serial-rises v.seen w.seen (front_goes v w es g) g.since.history.is_legal in omega (arith, up, low)

  -- the apps of a superseded serial are stopped where nothing is left
  pub stopped_then : (v : View T) (n : ℕ) → n < (state_at v.seen).serial → nothing_left (state_at v.seen) ≡ true → apps_stopped (state_at v.seen) n ≡ true
  stopped_then v n low left = stopped_at (state_at v.seen) (state_at v.seen).serial n low (first (all_apps_stopped (state_at v.seen) (state_at v.seen).serial) _ left)

  -- ---- whole turns

  -- a draft was given up
  pub abandoned_left : (v w : View T) (d made started : ℕ) (x : Drafted) → Knows v → GoesOn v w (Abandon d ∷ ended_all d made started) → slice_get (state_at (core_at v.seen)).drafts d ≡ Some x → x.life ≡ Live → made ≡ x.made → started ≡ x.started
      → nothing_left (state_at v.seen) ≡ true → nothing_left (state_at w.seen) ≡ true
  abandoned_left v w d made started x k g there live its_made its_started left =
      let es : List Entry = Abandon d ∷ ended_all d made started in
      left_goes v w es g (abandon_left (state_at (core_at v.seen)) (agrees v k) (unended_at v k) (left_at v left) d made started x there live its_made its_started (legal_goes v w es g))

  pub abandoned_duties : (v w : View T) (d made started : ℕ) → GoesOn v w (Abandon d ∷ ended_all d made started) → w.duties ≡ v.duties
  abandoned_duties v w d made started g = g.duties ∙ endings_duties v.duties (ended_all d made started) (all_end d made started)

  -- a draft was published
  pub published_left : (v w : View T) (d n : ℕ) (c : Change) → Knows v → GoesOn v w (Publish d n (state_at (core_at v.seen)).serial c ∷ stopped_of (state_at (core_at v.seen)) (state_at (core_at v.seen)).serial) → n ≡ (state_at (core_at v.seen)).serial + 1
      → nothing_left (state_at v.seen) ≡ true → nothing_left (state_at w.seen) ≡ true
  published_left v w d n c k g next left =
      let s : State = state_at (core_at v.seen) in
      let es : List Entry = Publish d n s.serial c ∷ stopped_of s s.serial in
      left_goes v w es g
      (publish_left s (agrees v k) (unended_at v k) (left_at v left) d n c next (λ m gone. retired-below (entries (core_at v.seen)) m (history-core v.seen k.history).is_legal gone) (legal_goes v w es g))

  -- the host was halted
  pub halted_left : (v w : View T) (n : ℕ) → Knows v → GoesOn v w (Halt n ∷ stopped_of (state_at (core_at v.seen)) (state_at (core_at v.seen)).serial) → n ≡ (state_at (core_at v.seen)).serial + 1 → nothing_left (state_at v.seen) ≡ true → nothing_left (state_at w.seen) ≡ true
  halted_left v w n k g next left =
      let s : State = state_at (core_at v.seen) in
      let es : List Entry = Halt n ∷ stopped_of s s.serial in
      left_goes v w es g (halt_left s (agrees v k) (unended_at v k) (left_at v left) n next (legal_goes v w es g))

  -- a serial was retired
  pub retired_left : (v w : View T) (n : ℕ) → Knows v → GoesOn v w (block_of (state_at (core_at v.seen)) n) → nothing_left (state_at v.seen) ≡ true → nothing_left (state_at w.seen) ≡ true
  retired_left v w n k g left =
      let s : State = state_at (core_at v.seen) in
      left_goes v w (block_of s n) g (retire_left s (agrees v k) (unended_at v k) (left_at v left) n (legal_goes v w (block_of s n) g))

  pub retired_duties : (v w : View T) (n : ℕ) → Knows v → nothing_left (state_at v.seen) ≡ true → GoesOn v w (block_of (state_at (core_at v.seen)) n) → w.duties ≡ without_number n v.duties
  retired_duties v w n k left g =
      let s : State = state_at (core_at v.seen) in
      g.duties ∙ endings_duties (without_number n v.duties) (cleaned_of s n) (cleaned_of_ends s (agrees v k) (unended_at v k) (left_at v left) n)

  -- ---- a serial is settled

  pub still_owes : (v w : View T) (es : List Entry) → list_all is_ending es ≡ true → GoesOn v w es → w.ticket ≡ v.ticket
  still_owes v w es ends g = ap (λ (o : Owes). o.ticket) (g.since.owes ∙ (ap (λ (l : List Entry). owes_after (owed v) l) g.are ∙ endings_owe (owed v) es ends))

  -- the serial is not due while the request of the pass runs under it
  pub lent : (w : View T) (n : ℕ) (due : Bool) (log : List Signed) → FoundInTurn w log → w.ticket ≡ Some n → due ≡ (open_at n (state_at log).tickets == 0) → due ≡ false
  lent w n due log f has is =
      let ticket : ticket_of w.number (state_at log).tickets ≡ Some n = sym (owed-ticket log w.number f.found.history) ∙ (ap (λ (o : Owes). o.ticket) f.found.owes ∙ has) in
      is ∙ ne_eqb (open_at n (state_at log).tickets) 0 (not_zero (open_at n (state_at log).tickets) (ticket-open w.number n (state_at log).tickets ticket))
    where
      not_zero : (x : ℕ) → 1 ≤ x → x ≡ 0 → ⊥
      not_zero x le e = absurd (omega arith)

  -- the pass has settled it
  pub settles_with : (v w x : View T) (es : List Entry) (n : ℕ) (due : Bool) (ds : List ℕ) → GoesOn v w es → w.duties ≡ v.duties → x ≡ settled w n due → ds ≡ cond due (n ∷ []) [] → Settles v x es ds
  settles_with v w x es n due ds g same is duties = record {
    unsettled = w;
    goes = g;
    settled = subst (λ (z : View T). x ≡ record w { unsettled = None; duties = z.duties }) (sym is) is;
    more = ap (λ (z : View T). z.duties) is ∙ (more_is due n w.duties ∙ (λ i. sym duties i ++ same i));
  }

  -- a superseded serial may be retired that was not, whose apps are stopped, and under which no request runs
  pub retires_later : (w : View T) (n : ℕ) (log : List Signed) → FoundInTurn w log → n < (state_at w.seen).serial → has_number n (state_at w.seen).retired ≡ false → apps_stopped (state_at w.seen) n ≡ true
      → (open_at n (state_at log).tickets == 0) ≡ true → may_retire (state_at log) n ≡ true
  retires_later w n log f low unretired stopped none =
      let s : State = state_at log in
      both _ _ (less-is n s.serial (subst (λ (z : ℕ). n < z) (sym (serial_alike log w.seen f.core_is)) low))
      (both _ _ (not-false (has_number n s.retired) (retired_alike log w.seen f.core_is n ∙ unretired))
      (both _ _ (stopped_alike log w.seen f.core_is n ∙ stopped) (not-false (is_ticketed n s.tickets) (is_ticketed-none n s.tickets (eqb-true (open_at n s.tickets) 0 none)))))

  -- and knows the duty by what it then met
  pub due_later : (w x : View T) (n m : ℕ) (due : Bool) (log : List Signed) (ds : List ℕ) → FoundInTurn w log → x.seen ≡ w.seen → due ≡ (open_at n (state_at log).tickets == 0) → ds ≡ cond due (n ∷ []) [] → n ≡ m
      → (due ≡ true → may_retire (state_at log) n ≡ true) → DueLater x.seen m ds
  due_later w x n m due log ds f same is duties at may = record {
    later = log;
    history = f.found.history;
    seen_first = subst (λ (l : List Signed). IsPrefix l log) (sym same) f.found.seen;
    same = f.core_is ∙ ap core_at (sym same);
    due = duties ∙ (ap (λ (b : Bool). cond b (n ∷ []) []) is ∙ ap (λ (j : ℕ). cond (open_at j (state_at log).tickets == 0) (j ∷ []) []) at);
    may = duty_may (state_at log) due n ds may duties;
  }
