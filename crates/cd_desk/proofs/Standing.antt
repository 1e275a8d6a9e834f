-- What a desk stands for after one entry more.
use Rattle.std.proofs.Common.{◌≡◌, ℕ, zero, suc, ◌+◌, ◌<◌, ◌≤◌, ◌==◌, min, Bool, true, false, ◌||◌, List, [], ◌∷◌, ◌++◌, length, refl, sym, ap, ◌∙◌, arith, Some, None, Option, set, slice_get, ⊎_elim, subst, IsTrue, option_map}
use Rattle.std.proofs.lemmas.List.{append-nil}
use Rattle.std.proofs.lemmas.Bool.{eqb-true}
use Rattle.std.proofs.lemmas.Bool.Decides.{eqb_tells}
use Rattle.cd_outside.specs.declared.fixtures.FixtureCall.{FixtureCall}
use Rattle.cd_outside.specs.FixtureCall.{CallsGrow}
use Rattle.cd_outside.specs.Counts.{count_end}
use Rattle.cd_pool.specs.Pairs.{pairs}
use Rattle.cd_legal.specs.declared.part.Part.TheVariants.{Instance, App}
use Rattle.cd_legal.specs.declared.entry.Entry.{Entry}
use Rattle.cd_legal.specs.declared.entry.Entry.TheVariants.{Draft, Made, Started, Publish, Abandon, Stopped, Begin, Finish, Retire, Cleaned, Halt}
use Rattle.cd_legal.specs.declared.entry.Signed.{Signed}
use Rattle.cd_legal.specs.declared.state.State.{State}
use Rattle.cd_legal.specs.declared.state.Drafted.{Drafted}
use Rattle.cd_legal.specs.declared.state.OpenTicket.{OpenTicket}
use Rattle.cd_legal.specs.declared.state.Life.{Life}
use Rattle.cd_legal.specs.declared.state.Life.TheVariants.{Live, Published, Abandoned}
use Rattle.cd_legal.specs.Entry.{signed, entries}
use Rattle.cd_legal.specs.State.{opening_state, holds, has_number, is_live, may_clean_instances, all_stopped, change_at, ticket_of, open_at, open_by, new_draft}
use Rattle.cd_legal.specs.Legal.{allowed, after, legal, state_of, may_open, may_stop, may_clean, is_complete}
use Rattle.cd_legal.specs.Calls.{fixture_calls, entry_calls, key_calls, shutting, is_shut}
use Rattle.cd_legal.specs.Begins.{begins_by, begins_now}
use Rattle.cd_legal.specs.Whole.{is_closed, is_closed_in}
use Rattle.cd_legal.proofs.Histories.{first, second, both, legal_from-snoc, state_from-snoc, calls_from-snoc, entries-snoc}
use Rattle.cd_legal.proofs.Begun.{begins_now-snoc}
use Rattle.cd_legal.proofs.Confs.{IsSteady, legal-steady}
use Rattle.cd_legal.proofs.Callers.{one_ticket}
use Rattle.cd_legal.proofs.Facts.{opens, completes, stops, cleans, can}
use Rattle.cd_legal.proofs.Places.{holds_kept, holds_push}
use Rattle.cd_legal.proofs.Shutting.{shut_kept, may_shut}
use Rattle.cd_desk.specs.declared.desk.Desk.{Desk}
use Rattle.cd_desk.specs.declared.books.Books.{Books}
use Rattle.cd_desk.specs.declared.callers.Tickets.{Tickets}
use Rattle.cd_desk.specs.declared.row.Row.{Row}
use Rattle.cd_desk.specs.Rows.{Numbered, Shows, ShowsAt, row_with}
use Rattle.cd_desk.specs.Desks.{Agrees, AddsTo, told_ticket, told_at}
use Rattle.cd_desk.proofs.Numbers.{with_set_same, with_set_other, with_none_after, with_push_same, with_push_other, row_with_at}
use Rattle.cd_desk.proofs.Lists.{get_last}
use Rattle.cd_legal.proofs.Places.{get_change_same, get_change_other}

-- what is known of each state of a legal history
pub record Known (s : State) : Type 0 where
  pub steady : IsSteady s
  pub single : (k : ℕ) → open_by k s.tickets ≤ 1

-- ---- what is closed stays closed

live_open : (retired : List ℕ) (x : Drafted) → x.life ≡ Live → is_closed retired x ≡ true → false ≡ true
live_open retired x live closed = sym (ap (may_clean_instances retired) live) ∙ first (may_clean_instances retired x.life) _ closed

opened_none : (retired : List ℕ) (x : Drafted) (A : Type 0) → x.life ≡ Live → is_closed retired x ≡ true → A
opened_none retired x A live closed = absurd (let e : false ≡ true = live_open retired x live closed in cc)

live_life : (l : Life) → is_live l ≡ true → l ≡ Live
live_life Live e = refl
live_life (Published n) e = cc
live_life Abandoned e = cc

more_left : (a e m : ℕ) (A : Type 0) → a + 1 + e ≡ m → e ≡ m → A
more_left a e m A next all = absurd (omega arith)

has_more : (n m : ℕ) (ns : List ℕ) → has_number n ns ≡ true → has_number n (ns ++ m ∷ []) ≡ true
has_more n m [] e = cc
has_more n m (k ∷ ns) e = pick (n == k) (has_number n ns) (has_number n (ns ++ m ∷ [])) (has_more n m ns) e
  where
    pick : (a b c : Bool) → (b ≡ true → c ≡ true) → (a || b) ≡ true → (a || c) ≡ true
    pick true b c on e = refl
    pick false b c on e = on e

life_on : (l : Life) (m : ℕ) (ns : List ℕ) → may_clean_instances ns l ≡ true → may_clean_instances (ns ++ m ∷ []) l ≡ true
life_on Live m ns e = e
life_on (Published n) m ns e = has_more n m ns e
life_on Abandoned m ns e = e

closed_on : (o : Option Drafted) (m : ℕ) (ns : List ℕ) → holds (is_closed ns) o ≡ true → holds (is_closed (ns ++ m ∷ [])) o ≡ true
closed_on None m ns e = e
closed_on (Some x) m ns e = both (may_clean_instances (ns ++ m ∷ []) x.life) _ (life_on x.life m ns (first (may_clean_instances ns x.life) _ e)) (second (may_clean_instances ns x.life) _ e)

pub closed_stays : (s : State) (e : Entry) (d : ℕ) → allowed s e ≡ true → is_closed_in s d ≡ true → is_closed_in (after s e) d ≡ true
closed_stays s (Draft j tree plan) d may c = holds_push (is_closed s.retired) (new_draft tree plan) s.drafts d c
closed_stays s (Made j i taken failed) d may c =
    holds_kept (is_closed s.retired) (may_open Instance i taken failed s.pairs) _ (λ x m q. opened_none s.retired x _ (opens Instance i taken failed s.pairs x m).opened.live q) s.drafts j d may c
closed_stays s (Started j i taken failed) d may c =
    holds_kept (is_closed s.retired) (may_open App i taken failed s.pairs) _ (λ x m q. opened_none s.retired x _ (opens App i taken failed s.pairs x m).opened.live q) s.drafts j d may c
closed_stays s (Publish j n from change) d may c =
    holds_kept (is_closed s.retired) is_complete _ (λ x m q. opened_none s.retired x _ (completes x m).opened.live q) s.drafts j d (can s (Publish j n from change) may).complete c
closed_stays s (Abandon j) d may c = holds_kept (is_closed s.retired) (λ x. is_live x.life) _ (λ x m q. opened_none s.retired x _ (live_life x.life m) q) s.drafts j d may c
closed_stays s (Stopped j a) d may c =
    holds_kept (is_closed s.retired) (may_stop a s.serial) _ (λ x m q. more_left a x.stopped x.started _ (stops a s.serial x m).next (eqb-true x.stopped x.started (first (all_stopped x) _ (second (may_clean_instances s.retired x.life) _ q)))) s.drafts j d may c
closed_stays s (Begin k n) d may c = c
closed_stays s (Finish k) d may c = c
closed_stays s (Retire n) d may c = closed_on (slice_get s.drafts d) n s.retired c
closed_stays s (Cleaned j i) d may c =
    holds_kept (is_closed s.retired) (may_clean i s.retired) _ (λ x m q. more_left i x.cleaned x.made _ (cleans i s.retired x m).next (eqb-true x.cleaned x.made (second (all_stopped x) _ (second (may_clean_instances s.retired x.life) _ q)))) s.drafts j d may c
closed_stays s (Halt n) d may c = c

-- ---- the fixtures' calls

pub no_shutting : (b c : Bool) → c ≡ b → shutting b c ≡ []
no_shutting true c e = refl
no_shutting false c e = rw e refl

-- where no shutting can follow, the calls are those of the keys
pub plain_calls : (s : State) (e : Entry) → allowed s e ≡ true → IsSteady s → may_shut e ≡ false → entry_calls s e ≡ key_calls s e
plain_calls s e may is plain = ap (λ z. key_calls s e ++ z) (no_shutting (is_shut s) (is_shut (after s e)) (shut_kept s e may is.agrees plain)) ∙ append-nil (key_calls s e)

-- ---- rows

pub record Shown (retired : List ℕ) (r : Row) (o : Option Drafted) : Type 0 where
  pub draft : Drafted
  pub is : o ≡ Some draft
  pub shows : Shows retired r draft

pub shown : (retired : List ℕ) (r : Row) (o : Option Drafted) → ShowsAt retired (Some r) o → Shown retired r o
shown retired r None h = absurd h
shown retired r (Some x) h = record { draft = x; is = refl; shows = h }

-- the row of a draft shows it
pub shown_at : {F : Type 0} (calls : F → Option (List FixtureCall)) (opening v : Desk F) (s : State) (told : List FixtureCall) (count : ℕ) → Agrees calls opening v s told count → (d place : ℕ) (r : Row) → d ≡ r.number → slice_get v.books.rows.items place ≡ Some r → Shown s.retired r (slice_get s.drafts d)
shown_at calls opening v s told count a d place r number there =
    shown s.retired r (slice_get s.drafts d) (subst (λ z. ShowsAt s.retired z (slice_get s.drafts d)) (row_with_at v.books d place r (record { number = number; there = there })) (a.rows d))

-- a row in place of another, where its draft is changed
pub rows_after : (retired : List ℕ) (rows : List Row) (drafts : List Drafted) (f : Drafted → Drafted) (d to j : ℕ) (r t : Row) (x : Drafted) → Numbered 0 rows to → slice_get rows j ≡ Some r → t.number ≡ r.number → d ≡ r.number → slice_get drafts d ≡ Some x → Shows retired t (f x)
    → ((i : ℕ) → ShowsAt retired (row_with i rows) (slice_get drafts i)) → (i : ℕ) → ShowsAt retired (row_with i (set rows j t)) (slice_get (change_at f d drafts) i)
rows_after retired rows drafts f d to j r t x numbers there same is draft shows all i = ⊎_elim
    (λ q. subst (λ z. ShowsAt retired (row_with z (set rows j t)) (slice_get (change_at f d drafts) z)) (sym q.1)
    (subst (λ z. ShowsAt retired z (slice_get (change_at f d drafts) d)) (sym (ap (λ (z : ℕ). row_with z (set rows j t)) is ∙ with_set_same 0 rows to j r t numbers there same)) (subst (λ z. ShowsAt retired (Some t) z) (sym (get_change_same f drafts d ∙ ap (option_map f) draft)) shows)))
    (λ q. subst (λ z. ShowsAt retired z (slice_get (change_at f d drafts) i)) (sym (with_set_other i rows j r t there same (λ (e : i ≡ r.number). q.1 (e ∙ sym is)))) (subst (λ z. ShowsAt retired (row_with i rows) z) (sym (get_change_other f drafts d i q.1)) (all i)))
    (eqb_tells i d)

get_before : (drafts : List Drafted) (x y : Drafted) (d : ℕ) → slice_get drafts d ≡ Some y → slice_get (drafts ++ x ∷ []) d ≡ Some y
get_before [] x y d e = cc
get_before (z ∷ drafts) x y zero e = e
get_before (z ∷ drafts) x y (suc d) e = get_before drafts x y d e

shows_before : (retired : List ℕ) (o : Option Row) (drafts : List Drafted) (x : Drafted) (d : ℕ) (p : Option Drafted) → slice_get drafts d ≡ p → ShowsAt retired o p → ShowsAt retired o (slice_get (drafts ++ x ∷ []) d)
shows_before retired None drafts x d p e sh = tt
shows_before retired (Some r) drafts x d None e sh = absurd sh
shows_before retired (Some r) drafts x d (Some y) e sh = subst (λ z. ShowsAt retired (Some r) z) (sym (get_before drafts x y d e)) sh

pub rows_added : (retired : List ℕ) (rows : List Row) (drafts : List Drafted) (to : ℕ) (r : Row) (x : Drafted) → Numbered 0 rows to → r.number ≡ to → length drafts ≡ to → Shows retired r x → ((d : ℕ) → ShowsAt retired (row_with d rows) (slice_get drafts d))
    → (d : ℕ) → ShowsAt retired (row_with d (rows ++ r ∷ [])) (slice_get (drafts ++ x ∷ []) d)
rows_added retired rows drafts to r x numbers is count sh all d = ⊎_elim
    (λ q. subst (λ z. ShowsAt retired (row_with z (rows ++ r ∷ [])) (slice_get (drafts ++ x ∷ []) z)) (sym q.1)
    (subst (λ z. ShowsAt retired z (slice_get (drafts ++ x ∷ []) r.number)) (sym (with_push_same rows r (with_none_after r.number 0 rows to (let i = is in omega (arith, i)) numbers))) (subst (λ z. ShowsAt retired (Some r) z) (sym (get_last drafts (drafts ++ x ∷ []) r.number x refl (is ∙ sym count))) sh)))
    (λ q. subst (λ z. ShowsAt retired z (slice_get (drafts ++ x ∷ []) d)) (sym (with_push_other d rows r q.1)) (shows_before retired (row_with d rows) drafts x d (slice_get drafts d) refl (all d)))
    (eqb_tells d r.number)

-- ---- a part changes, and the rest stays

module _ {F : Type 0} (calls : F → Option (List FixtureCall)) (opening v : Desk F) (s : State) (told : List FixtureCall) (count : ℕ) (a : Agrees calls opening v s told count) where
  -- the drafts, and the books
  pub with_books : (books : Books) (drafts : List Drafted) (later : List FixtureCall) → length drafts ≡ books.next → ((d : ℕ) → ShowsAt s.retired (row_with d books.rows.items) (slice_get drafts d)) → ((d : ℕ) → d < books.next → row_with d books.rows.items ≡ None → is_closed_in (record s { drafts = drafts }) d ≡ true) → s.pairs ≡ pairs books.pool.held
      → CallsGrow (calls opening.fixtures) later (calls v.fixtures) → Agrees calls opening (record v { books = books }) (record s { drafts = drafts }) later count
  with_books books drafts later next rows closed held grow = record {
    serial = a.serial;
    halted = a.halted;
    begun = a.begun;
    drafts = next;
    rows = rows;
    closed = closed;
    retired = a.retired;
    opening_retired = a.opening_retired;
    pairs = held;
    tickets = a.tickets;
    at_serial = a.at_serial;
    callers = a.callers;
    told_on = grow;
  }

  -- the tickets, and the calls
  pub with_tickets : (fixtures : F) (tickets : Tickets) (begun : ℕ) (open_now : List OpenTicket) (later : List FixtureCall) (now : ℕ) → min now count_end ≡ begun → ((k : ℕ) → ticket_of k open_now ≡ told_ticket (slice_get tickets.by_caller.items k)) → ((n : ℕ) → open_at n open_now ≡ told_at n tickets.by_caller.items) → length tickets.by_caller.items ≡ length opening.tickets.by_caller.items
      → CallsGrow (calls opening.fixtures) later (calls fixtures) → Agrees calls opening (record v { fixtures = fixtures; tickets = tickets; begun = begun }) (record s { tickets = open_now }) later now
  with_tickets fixtures tickets begun open_now later now count_is each at_serial callers grow = record {
    serial = a.serial;
    halted = a.halted;
    begun = count_is;
    drafts = a.drafts;
    rows = a.rows;
    closed = a.closed;
    retired = a.retired;
    opening_retired = a.opening_retired;
    pairs = a.pairs;
    tickets = each;
    at_serial = at_serial;
    callers = callers;
    told_on = grow;
  }

-- ---- one entry more

module _ {F : Type 0} (calls : F → Option (List FixtureCall)) where
  -- the same for one step of the state
  abbrev pub Steps : Desk F → Desk F → Entry → Type 0
  Steps v w e = (opening : Desk F) (s : State) (told : List FixtureCall) (count : ℕ) → Known s → Agrees calls opening v s told count → (allowed s e ≡ true) × Agrees calls opening w (after s e) (told ++ entry_calls s e) (begins_by count e)

  pub adds : (v w : Desk F) (e : Entry) → Steps v w e → AddsTo calls v w e
  adds v w e step opening log k h =
      let x : Signed = signed k e in
      let es : List Entry = entries log in
      let known : Known (state_of es) = record { steady = legal-steady es h.is_legal; single = λ k. one_ticket es k h.is_legal } in
      let next = step opening (state_of es) (fixture_calls es) (begins_now es) known h.agrees in
      let longer : entries (log ++ x ∷ []) ≡ es ++ e ∷ [] = entries-snoc log x in record {
        is_legal = subst (λ z. IsTrue (legal z)) (sym longer) (legal_from-snoc opening_state es e h.is_legal next.0);
        agrees = subst (λ z. Agrees calls opening w (state_of z) (fixture_calls z) (begins_now z)) (sym longer)
            (subst (λ z. Agrees calls opening w z (fixture_calls (es ++ e ∷ [])) (begins_now (es ++ e ∷ []))) (sym (state_from-snoc opening_state es e))
            (subst (λ z. Agrees calls opening w (after (state_of es) e) z (begins_now (es ++ e ∷ []))) (sym (calls_from-snoc opening_state es e))
            (subst (λ z. Agrees calls opening w (after (state_of es) e) (fixture_calls es ++ entry_calls (state_of es) e) z) (sym (begins_now-snoc es e)) next.1)));
      }
