-- What a desk stands for after a serial is retired, or the host is halted.
use Rattle.std.proofs.Common.{◌≡◌, ◌≢◌, ℕ, zero, suc, ◌+◌, ◌<◌, ◌==◌, ◌&&◌, ◌||◌, Bool, true, false, cond, List, [], ◌∷◌, ◌++◌, length, refl, sym, ap, ◌∙◌, arith, Some, None, Option, set, slice_get, subst, ⊎_elim, ◌⊎◌, inl, inr, eq-eqb, ne_eqb}
use Rattle.std.proofs.lemmas.Bool.{eqb-true}
use Rattle.std.proofs.lemmas.Bool.Decides.{eqb_tells}
use Rattle.cd_outside.specs.declared.fixtures.FixtureCall.{FixtureCall}
use Rattle.cd_outside.specs.declared.fixtures.FixtureCall.TheVariants.{Shut}
use Rattle.cd_outside.specs.FixtureCall.{CallsGrow}
use Rattle.cd_pool.specs.Pairs.{pairs}
use Rattle.cd_legal.specs.declared.entry.Entry.TheVariants.{Retire, Halt}
use Rattle.cd_legal.specs.declared.state.State.{State}
use Rattle.cd_legal.specs.declared.state.Drafted.{Drafted}
use Rattle.cd_legal.specs.declared.state.Life.{Life}
use Rattle.cd_legal.specs.declared.state.Life.TheVariants.{Live, Published, Abandoned}
use Rattle.cd_legal.specs.State.{holds, holds_if_there, has_number, draft_of, of_draft, all_stopped, all_cleaned, may_clean_instances, apps_stopped}
use Rattle.cd_legal.specs.Legal.{allowed, after}
use Rattle.cd_legal.specs.Serials.{has_serial, has_serial_in}
use Rattle.cd_legal.specs.Calls.{entry_calls, is_shut, shutting, last_of}
use Rattle.cd_legal.specs.Whole.{is_closed}
use Rattle.cd_legal.proofs.Histories.{first, second}
use Rattle.cd_legal.proofs.Facts.{allowed-by, can, Retires as MayRetire}
use Rattle.cd_legal.proofs.Callers.{is_ticketed-none, open_at-none}
use Rattle.cd_legal.proofs.Serials.{Agree, count_running}
use Rattle.cd_desk.specs.declared.row.Row.{Row}
use Rattle.cd_desk.specs.declared.books.Books.{Books}
use Rattle.cd_desk.specs.declared.desk.Desk.{Desk}
use Rattle.cd_desk.specs.Rows.{Shows, ShowsAt, is_retired, row_with}
use Rattle.cd_desk.specs.Books.{Retires}
use Rattle.cd_desk.specs.Serials.{row_of}
use Rattle.cd_desk.specs.Desks.{Agrees, told_at}
use Rattle.cd_desk.specs.Closings.{is_stopped_row, IsStopped, IsStoppedAt, CanRetire}
use Rattle.cd_desk.proofs.Lists.{some_is, some_none, same_at}
use Rattle.cd_desk.proofs.Numbers.{same_place, with_set_same, with_set_other, none_before}
use Rattle.cd_desk.proofs.Placing.{RowDraft, found, gone, serial_life, row_of-has, row_of-none, retired_none, retired_row}
use Rattle.cd_desk.proofs.Shuttings.{last_at, with_calls}
use Rattle.cd_desk.proofs.Standing.{Steps, closed_stays, plain_calls}
use Rattle.cd_desk.proofs.Ticketing.{no_calls}

-- ---- the halt

row_of-at : (n : ℕ) (rows : List Row) (r : Row) → row_of n rows ≡ Some r → (place : ℕ) × (slice_get rows place ≡ Some r)
row_of-at n [] r e = absurd (let f : false ≡ true = some_none r (sym e) in cc)
row_of-at n (x ∷ rows) r e = first_or (has_serial n x.life) (row_of-at n rows r) e
  where
    first_or : (b : Bool) → (row_of n rows ≡ Some r → (place : ℕ) × (slice_get rows place ≡ Some r)) → cond b (Some x) (row_of n rows) ≡ Some r → (place : ℕ) × (slice_get (x ∷ rows) place ≡ Some r)
    first_or true on e = (0, e)
    first_or false on e = let p = on e in (suc p.0, p.1)

module _ {F : Type 0} (calls : F → Option (List FixtureCall)) (opening b : Desk F) (s : State) (told : List FixtureCall) (count : ℕ) (agree : Agree s) (a : Agrees calls opening b s told count) where
  closed_stopped : (o : Option Drafted) → holds (is_closed s.retired) o ≡ true → holds_if_there all_stopped o ≡ true
  closed_stopped None e = refl
  closed_stopped (Some x) e = first (all_stopped x) (all_cleaned x) (second (may_clean_instances s.retired x.life) _ e)

  -- whether the apps of a serial are stopped, by its row
  pub row_stopped : (n : ℕ) (o : Option Row) → row_of n b.books.rows.items ≡ o → of_draft all_stopped s.drafts (draft_of n s.published) ≡ is_stopped_row o
  row_stopped n None none = at (draft_of n s.published) refl
    where
      at : (o : Option ℕ) → draft_of n s.published ≡ o → of_draft all_stopped s.drafts (draft_of n s.published) ≡ true
      at None is = ap (of_draft all_stopped s.drafts) is
      at (Some d) is = ap (of_draft all_stopped s.drafts) is ∙ closed_stopped (slice_get s.drafts d) (gone calls opening b s told count agree a n d none is)
  row_stopped n (Some r) is =
      let p = row_of-at n b.books.rows.items r is in
      let x : RowDraft s n r.number r = found calls opening b s told count agree a n p.0 r p.1 (row_of-has n b.books.rows.items r is) in
      ap (of_draft all_stopped s.drafts) x.serial ∙ (ap (holds_if_there all_stopped) x.there ∙ (ap (λ (z : ℕ). z == x.draft.started) x.shows.stopped ∙ ap (λ (z : ℕ). r.apps.ended == z) x.shows.started))

module _ {F : Type 0} (calls : F → Option (List FixtureCall)) where
  pub halts : (v : Desk F) (later : F) (last : Bool) → v.halted ≡ false → last ≡ is_stopped_row (row_of v.serial v.books.rows.items) → CallsGrow (calls v.fixtures) (cond last (Shut ∷ []) []) (calls later) → Steps calls v (record v { fixtures = later; serial = v.serial + 1; halted = true; begun = 0 }) (Halt (v.serial + 1))
  halts v later last running is grow opening s told count known a =
      let n : ℕ = v.serial + 1 in
      let free : s.halted ≡ false = a.halted ∙ running in
      let serial : s.serial ≡ v.serial = a.serial in
      let may : allowed s (Halt n) ≡ true = allowed-by s (Halt n) (record { running = free; next = ap (λ (z : ℕ). z + 1) (sym serial) }) in
      let counted : length s.published ≡ v.serial = count_running s free known.steady.agrees.count ∙ serial in
      let before : is_shut s ≡ false = ap (λ (z : Bool). z && of_draft all_stopped s.drafts (last_of s.published)) free in
      let now : is_shut (after s (Halt n)) ≡ last = ap (of_draft all_stopped s.drafts) (last_at s.published ∙ ap (λ (z : ℕ). draft_of z s.published) counted) ∙ (row_stopped calls opening v s told count known.steady.agrees a v.serial (row_of v.serial v.books.rows.items) refl ∙ sym is) in
      let its : cond last (Shut ∷ []) [] ≡ shutting (is_shut s) (is_shut (after s (Halt n))) = sym (ap (λ (z : Bool). shutting z (is_shut (after s (Halt n)))) before ∙ ap (λ (z : Bool). shutting false z) now) in
      let w : Desk F = record v { serial = n; halted = true; begun = 0 } in (
        may,
        subst (λ (z : List FixtureCall). Agrees calls opening (record v { fixtures = later; serial = n; halted = true; begun = 0 }) (after s (Halt n)) (told ++ z) 0) its
            (with_calls calls opening w later (after s (Halt n)) told (cond last (Shut ∷ []) []) 0 grow (record {
              serial = refl;
              halted = refl;
              begun = refl;
              drafts = a.drafts;
              rows = a.rows;
              closed = a.closed;
              retired = λ k has. (let low = a.retired k has in omega (arith, low, serial));
              opening_retired = a.opening_retired;
              pairs = a.pairs;
              tickets = a.tickets;
              at_serial = a.at_serial;
              callers = a.callers;
              told_on = a.told_on;
            })),
      )

-- ---- a retiring

has_other : (k n : ℕ) (ms : List ℕ) → k ≢ n → has_number k (ms ++ n ∷ []) ≡ has_number k ms
has_other k n [] ne = ap (λ (b : Bool). b || false) (ne_eqb k n ne)
has_other k n (m ∷ ms) ne = ap (λ (b : Bool). (k == m) || b) (has_other k n ms ne)

has_push : (n : ℕ) (ms : List ℕ) (m : ℕ) → has_number n (ms ++ m ∷ []) ≡ true → (has_number n ms ≡ true) ⊎ (n ≡ m)
has_push n ms m is = ⊎_elim (λ q. inr q.1) (λ q. inl (sym (has_other n m ms q.1) ∙ is)) (eqb_tells n m)

has_last : (n : ℕ) (ms : List ℕ) → has_number n (ms ++ n ∷ []) ≡ true
has_last n [] = ap (λ (b : Bool). b || false) (eq-eqb n n refl)
has_last n (m ∷ ms) = or_true (n == m) (has_last n ms)
  where
    or_true : (b : Bool) {c : Bool} → c ≡ true → (b || c) ≡ true
    or_true true e = refl
    or_true false e = e

-- a life that is not that of the serial
retired_other : (l : Life) (n : ℕ) (ms : List ℕ) → has_serial n l ≡ false → is_retired (ms ++ n ∷ []) l ≡ is_retired ms l
retired_other Live n ms e = refl
retired_other (Published k) n ms e = has_other k n ms (λ (same : k ≡ n). (let f : false ≡ true = sym e ∙ eq-eqb k n same in cc))
retired_other Abandoned n ms e = refl

shows_other : (ms : List ℕ) (n : ℕ) (r : Row) (x : Drafted) → has_serial n x.life ≡ false → Shows ms r x → Shows (ms ++ n ∷ []) r x
shows_other ms n r x e sh = record { tree = sh.tree; plan = sh.plan; made = sh.made; started = sh.started; failed = sh.failed; life = sh.life; stopped = sh.stopped; cleaned = sh.cleaned; over = retired_other x.life n ms e ∙ sh.over }

shows_all : (ms : List ℕ) (n : ℕ) (o : Option Row) (p : Option Drafted) → holds (λ x. has_serial n x.life) p ≡ false → ShowsAt ms o p → ShowsAt (ms ++ n ∷ []) o p
shows_all ms n None None e sh = tt
shows_all ms n None (Some x) e sh = tt
shows_all ms n (Some r) None e sh = sh
shows_all ms n (Some r) (Some x) e sh = shows_other ms n r x e sh

decide : (b : Bool) → (b ≡ true → ⊥) → b ≡ false
decide true never = absurd (never refl)
decide false never = refl

module _ {F : Type 0} (calls : F → Option (List FixtureCall)) where
  -- serial 0, which no draft has
  pub retires_opening : (v : Desk F) → 0 < v.serial → v.opening_retired ≡ false → told_at 0 v.tickets.by_caller.items ≡ 0 → Steps calls v (record v { opening_retired = true }) (Retire 0)
  retires_opening v below unretired free opening s told count known a =
      let serial : s.serial ≡ v.serial = a.serial in
      let agree : Agree s = known.steady.agrees in
      let may : allowed s (Retire 0) ≡ true = allowed-by s (Retire 0) (record { superseded = omega (arith, serial, below); unretired = a.opening_retired ∙ unretired; stopped = refl; unticketed = is_ticketed-none 0 s.tickets (a.at_serial 0 ∙ free) }) in
      let none : (d : ℕ) → has_serial_in s 0 d ≡ false = λ d. decide (has_serial_in s 0 d) (λ has. (let f : false ≡ true = some_none d (sym (agree.published 0 d has)) in absurd (let g : false ≡ true = f in cc))) in (
        may,
        record {
          serial = a.serial;
          halted = a.halted;
          begun = a.begun;
          drafts = a.drafts;
          rows = λ j. shows_all s.retired 0 (row_with j v.books.rows.items) (slice_get s.drafts j) (none j) (a.rows j);
          closed = λ j lt unknown. closed_stays s (Retire 0) j may (a.closed j lt unknown);
          retired = λ k has. ⊎_elim (λ q. a.retired k q) (λ q. omega (arith, q, serial, below)) (has_push k s.retired 0 has);
          opening_retired = has_last 0 s.retired;
          pairs = a.pairs;
          tickets = a.tickets;
          at_serial = a.at_serial;
          callers = a.callers;
          told_on = subst (λ z. CallsGrow (calls opening.fixtures) z (calls v.fixtures)) (no_calls told (entry_calls s (Retire 0)) (plain_calls s (Retire 0) may known.steady refl)) a.told_on;
        },
      )

  -- that of a draft
  pub retires : (v : Desk F) (books : Books) (n place : ℕ) (m : Retires place v.books books) → 0 < n → n < v.serial → has_serial n m.changes.was.life ≡ true → IsStopped v.books n
      → told_at n v.tickets.by_caller.items ≡ 0 → Steps calls v (record v { books = books }) (Retire n)
  retires v books n place m some below has can free opening s told count known a =
      let r : Row = m.changes.was in
      let t : Row = m.changes.is in
      let agree : Agree s = known.steady.agrees in
      let serial : s.serial ≡ v.serial = a.serial in
      let x : RowDraft s n r.number r = found calls opening v s told count agree a n place r m.changes.there has in
      let y : RowDraft s n can.row.number can.row = found calls opening v s told count agree a n can.place can.row can.there (ap (has_serial n) can.life ∙ eq-eqb n n refl) in
      let drafts : can.row.number ≡ r.number = some_is can.row.number r.number (sym y.serial ∙ x.serial) in
      let here : can.place ≡ place = same_place 0 v.books.rows.items v.books.next can.place place can.row r v.books.numbers can.there m.changes.there drafts in
      let row_is : can.row ≡ r = same_at v.books.rows.items place can.row r (subst (λ (z : ℕ). slice_get v.books.rows.items z ≡ Some can.row) here can.there) m.changes.there in
      let facts : (r.retired ≡ false) × (r.apps.ended ≡ r.apps.opened) = subst (λ (z : Row). (z.retired ≡ false) × (z.apps.ended ≡ z.apps.opened)) row_is (can.unretired, can.stopped) in
      let unretired : has_number n s.retired ≡ false = ap (is_retired s.retired) (sym x.life) ∙ (x.shows.over ∙ facts.0) in
      let stopped : apps_stopped s n ≡ true = ap (of_draft all_stopped s.drafts) x.serial ∙ (ap (holds_if_there all_stopped) x.there ∙ eq-eqb x.draft.stopped x.draft.started (x.shows.stopped ∙ (facts.1 ∙ sym x.shows.started))) in
      let may : allowed s (Retire n) ≡ true = allowed-by s (Retire n) (record { superseded = omega (arith, serial, below); unretired = unretired; stopped = stopped; unticketed = is_ticketed-none n s.tickets (a.at_serial n ∙ free) }) in
      let now : Shows (s.retired ++ n ∷ []) t x.draft = record {
        tree = x.shows.tree ∙ ap (λ z. z.value) (sym m.changes.tree);
        plan = x.shows.plan ∙ ap (λ z. z.value) (sym m.changes.plan);
        made = x.shows.made ∙ ap (λ z. z.opened) (sym m.modules);
        started = x.shows.started ∙ ap (λ z. z.opened) (sym m.apps);
        failed = x.shows.failed ∙ sym m.failed;
        life = x.shows.life ∙ sym m.life;
        stopped = x.shows.stopped ∙ ap (λ z. z.ended) (sym m.apps);
        cleaned = x.shows.cleaned ∙ ap (λ z. z.ended) (sym m.modules);
        over = ap (is_retired (s.retired ++ n ∷ [])) x.life ∙ (has_last n s.retired ∙ sym m.retired);
      } in
      let none : (j : ℕ) → j ≢ r.number → holds (λ y. has_serial n y.life) (slice_get s.drafts j) ≡ false =
      λ j ne. decide (holds (λ y. has_serial n y.life) (slice_get s.drafts j)) (λ its. ne (some_is j r.number (sym (agree.published n j its) ∙ x.serial))) in (
        may,
        record {
          serial = a.serial;
          halted = a.halted;
          begun = a.begun;
          drafts = a.drafts ∙ sym m.changes.next;
          rows = λ j. subst (λ z. ShowsAt (s.retired ++ n ∷ []) (row_with j z) (slice_get s.drafts j)) (sym m.changes.rows)
              (⊎_elim
              (λ q. subst (λ z. ShowsAt (s.retired ++ n ∷ []) (row_with z (set v.books.rows.items place t)) (slice_get s.drafts z)) (sym q.1)
              (subst (λ z. ShowsAt (s.retired ++ n ∷ []) z (slice_get s.drafts r.number)) (sym (with_set_same 0 v.books.rows.items v.books.next place r t v.books.numbers m.changes.there m.changes.number)) (subst (λ z. ShowsAt (s.retired ++ n ∷ []) (Some t) z) (sym x.there) now)))
              (λ q. subst (λ z. ShowsAt (s.retired ++ n ∷ []) z (slice_get s.drafts j)) (sym (with_set_other j v.books.rows.items place r t m.changes.there m.changes.number q.1)) (shows_all s.retired n (row_with j v.books.rows.items) (slice_get s.drafts j) (none j q.1) (a.rows j)))
              (eqb_tells j r.number));
          closed = λ j lt unknown. closed_stays s (Retire n) j may
              (a.closed j (subst (λ z. j < z) m.changes.next lt) (none_before j 0 v.books.rows.items v.books.next place r t v.books.numbers m.changes.there m.changes.number (subst (λ z. row_with j z ≡ None) m.changes.rows unknown)));
          retired = λ k had. ⊎_elim (λ q. a.retired k q) (λ q. omega (arith, q, serial, below)) (has_push k s.retired n had);
          opening_retired = has_other 0 n s.retired (λ (e : 0 ≡ n). omega (arith, e, some)) ∙ a.opening_retired;
          pairs = a.pairs ∙ ap (λ z. pairs z.held) (sym m.pool);
          tickets = a.tickets;
          at_serial = a.at_serial;
          callers = a.callers;
          told_on = subst (λ z. CallsGrow (calls opening.fixtures) z (calls v.fixtures)) (no_calls told (entry_calls s (Retire n)) (plain_calls s (Retire n) may known.steady refl)) a.told_on;
        },
      )

-- ---- what a retiring asks for

pub positive : (n : ℕ) → (n ≡ 0 → ⊥) → 0 < n
positive zero ne = absurd (ne refl)
positive (suc n) ne = omega arith

pub stopped_at : {F : Type 0} (v : Desk F) (n : ℕ) → (n ≡ 0 → ⊥) → IsStoppedAt v n → IsStopped v.books n
stopped_at v zero ne at = absurd (ne refl)
stopped_at v (suc n) ne at = at

-- a stopped one has a row
pub stopped_there : (b : Books) (n : ℕ) → IsStopped b n → row_of n b.rows.items ≡ None → false ≡ true
stopped_there b n at none = sym (row_of-none n b.rows.items at.place at.row none at.there) ∙ (ap (has_serial n) at.life ∙ eq-eqb n n refl)

module _ {F : Type 0} (calls : F → Option (List FixtureCall)) (opening b : Desk F) (s : State) (told : List FixtureCall) (count : ℕ) (agree : Agree s) (a : Agrees calls opening b s told count) where
  -- what the history allows to retire the desk may retire
  pub may_retire_here : (n : ℕ) → allowed s (Retire n) ≡ true → CanRetire b n
  may_retire_here n may =
      let f : MayRetire s n = can s (Retire n) may in
      let serial : s.serial ≡ b.serial = a.serial in
      let below = f.superseded in
      record {
        superseded = omega (arith, serial, below);
        stopped = there n (omega (arith, serial, below)) f.unretired f.stopped;
        free = sym (a.at_serial n) ∙ open_at-none n s.tickets f.unticketed;
      }
    where
      by_row : (n : ℕ) → suc n < b.serial → has_number (suc n) s.retired ≡ false → apps_stopped s (suc n) ≡ true → (o : Option Row) → row_of (suc n) b.books.rows.items ≡ o → IsStopped b.books (suc n)
      by_row n low unretired stopped None none = absurd (let f : false ≡ true = sym unretired ∙ retired_none calls opening b s told count agree a (suc n) (ne_eqb (suc n) 0 (λ (e : suc n ≡ 0). cc)) low none in cc)
      by_row n low unretired stopped (Some r) is =
          let p = row_of-at (suc n) b.books.rows.items r is in
          let has = row_of-has (suc n) b.books.rows.items r is in
          record {
            place = p.0;
            row = r;
            there = p.1;
            life = serial_life (suc n) r.life has;
            unretired = sym (retired_row calls opening b s told count agree a (suc n) p.0 r p.1 has) ∙ unretired;
            stopped = eqb-true r.apps.ended r.apps.opened (sym (row_stopped calls opening b s told count agree a (suc n) (Some r) is) ∙ stopped);
          }

      there : (n : ℕ) → n < b.serial → has_number n s.retired ≡ false → apps_stopped s n ≡ true → IsStoppedAt b n
      there zero low unretired stopped = sym a.opening_retired ∙ unretired
      there (suc n) low unretired stopped = by_row n low unretired stopped (row_of (suc n) b.books.rows.items) refl
