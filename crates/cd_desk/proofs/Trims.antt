-- Books from which rows of closed drafts went.
use Rattle.std.proofs.Common.{◌≡◌, ℕ, zero, suc, ◌+◌, ◌<◌, ◌==◌, ◌&&◌, Bool, true, false, cond, List, [], ◌∷◌, refl, sym, ap, ◌∙◌, arith, Some, None, Option, slice_get, subst, ⊎_elim, sum_by}
use Rattle.std.specs.List.{remove}
use Rattle.std.proofs.lemmas.Bool.Decides.{eqb_tells}
use Rattle.std.proofs.lemmas.List.Sums.{sum_by-cons}
use Rattle.std.proofs.lemmas.Bool.{eqb-true}
use Rattle.cd_outside.specs.declared.fixtures.FixtureCall.{FixtureCall}
use Rattle.cd_tree.specs.declared.tree.Tree.{Tree}
use Rattle.cd_legal.specs.declared.state.State.{State}
use Rattle.cd_legal.specs.declared.state.Drafted.{Drafted}
use Rattle.cd_legal.specs.declared.state.Life.{Life}
use Rattle.cd_legal.specs.declared.state.Life.TheVariants.{Live, Published, Abandoned}
use Rattle.cd_legal.specs.State.{holds, may_clean_instances}
use Rattle.cd_legal.specs.Entry.{entries}
use Rattle.cd_legal.specs.Legal.{state_at}
use Rattle.cd_legal.specs.Calls.{fixture_calls}
use Rattle.cd_legal.specs.Begins.{begins_now}
use Rattle.cd_legal.specs.Whole.{is_closed, is_closed_in}
use Rattle.cd_legal.proofs.Histories.{first, second}
use Rattle.cd_pool.specs.Pairs.{pairs}
use Rattle.cd_desk.specs.declared.row.Row.{Row}
use Rattle.cd_desk.specs.declared.books.Books.{Books}
use Rattle.cd_desk.specs.declared.desk.Desk.{Desk}
use Rattle.cd_desk.specs.declared.left.Left.{Left}
use Rattle.cd_desk.specs.declared.closing.Closing.{Closing}
use Rattle.cd_desk.specs.Rows.{Numbered, Shows, ShowsAt, is_retired, leases_at, row_waits, row_with}
use Rattle.cd_desk.specs.Books.{RowAt, HasRowAt}
use Rattle.cd_desk.specs.Desks.{Agrees, Keeps}
use Rattle.cd_desk.specs.Lefts.{IsLeft}
use Rattle.cd_desk.specs.Closings.{IsRest, IsClosing, MayClean, IsStopped, IsStoppedAt, CanRetire}
use Rattle.cd_desk.specs.Trimming.{is_done, is_closed_row, TrimsAt, Trims, IsClosedPlace, IsCleared}
use Rattle.cd_desk.proofs.Lists.{some_is, some_none}
use Rattle.cd_desk.proofs.Numbers.{with_at, with_remove_same, with_remove_other, row_same, row_with_at, row_at_with}
use Rattle.cd_desk.proofs.Parts.{part_free}
use Rattle.cd_desk.proofs.Standing.{Shown, shown}

-- ---- a row, and the draft that it shows

done_shown : (retired : List ℕ) (l : Life) (b : Bool) → is_retired retired l ≡ b → may_clean_instances retired l ≡ is_done l b
done_shown retired Live b e = refl
done_shown retired (Published n) b e = e
done_shown retired Abandoned b e = refl

-- a draft is closed exactly where its row says so
pub closed_shown : (retired : List ℕ) (r : Row) (x : Drafted) → Shows retired r x → is_closed retired x ≡ is_closed_row r
closed_shown retired r x sh =
    ap (λ (b : Bool). b && ((x.stopped == x.started) && (x.cleaned == x.made))) (done_shown retired x.life r.retired sh.over ∙ ap (λ (l : Life). is_done l r.retired) sh.life)
    ∙ ap (λ (b : Bool). is_done r.life r.retired && b)
    (ap (λ (z : ℕ). (z == x.started) && (x.cleaned == x.made)) sh.stopped ∙ (ap (λ (z : ℕ). (r.apps.ended == z) && (x.cleaned == x.made)) sh.started
    ∙ (ap (λ (z : ℕ). (r.apps.ended == r.apps.opened) && (z == x.made)) sh.cleaned ∙ ap (λ (z : ℕ). (r.apps.ended == r.apps.opened) && (r.modules.ended == z)) sh.made)))

-- of a closed row all is ended
pub closed_ended : (r : Row) → is_closed_row r ≡ true → (r.apps.ended ≡ r.apps.opened) × (r.modules.ended ≡ r.modules.opened)
closed_ended r is =
    let ended = second (is_done r.life r.retired) _ is in
    (eqb-true r.apps.ended r.apps.opened (first (r.apps.ended == r.apps.opened) _ ended), eqb-true r.modules.ended r.modules.opened (second (r.apps.ended == r.apps.opened) _ ended))

-- ---- which rows went

trims_same : (o : Option Row) → TrimsAt o o
trims_same None = refl
trims_same (Some r) = refl

pub trims_none : (v : Books) → Trims v v
trims_none v = record { rows = λ d. trims_same (row_with d v.rows.items); next = refl; pool = refl }

trims_twice : (o p q : Option Row) → TrimsAt o p → TrimsAt p q → TrimsAt o q
trims_twice None p q e f = subst (λ z. TrimsAt z q) e f
trims_twice (Some r) None q e f = subst (λ z. TrimsAt (Some r) z) (sym f) e
trims_twice (Some r) (Some t) q e f = subst (λ (z : Row). TrimsAt (Some z) q) e f

-- further rows went
pub trims_on : (v w u : Books) → Trims v w → Trims w u → Trims v u
trims_on v w u t q = record {
  rows = λ d. trims_twice (row_with d v.rows.items) (row_with d w.rows.items) (row_with d u.rows.items) (t.rows d) (q.rows d);
  next = q.next ∙ t.next;
  pool = q.pool ∙ t.pool;
}

none_was : (o : Option Row) (r : Row) → TrimsAt o (Some r) → o ≡ Some r
none_was None r e = absurd (let f : false ≡ true = some_none r e in cc)
none_was (Some t) r e = ap (λ z. Some z) (sym e)

is_still : (o : Option Row) (r : Row) → TrimsAt (Some r) o → (is_closed_row r ≡ true → ⊥) → o ≡ Some r
is_still None r e unclosed = absurd (unclosed e)
is_still (Some t) r e unclosed = ap (λ z. Some z) e

module _ (v w : Books) (t : Trims v w) where
  -- a row that is there afterwards was there
  row_was : (d place : ℕ) (r : Row) → RowAt w d place r → (other : ℕ) × RowAt v d other r
  row_was d place r at = row_at_with v d r (none_was (row_with d v.rows.items) r (subst (λ z. TrimsAt (row_with d v.rows.items) z) (row_with_at w d place r at) (t.rows d)))

  -- one that is not closed stays
  row_stays : (d place : ℕ) (r : Row) → RowAt v d place r → (is_closed_row r ≡ true → ⊥) → (other : ℕ) × RowAt w d other r
  row_stays d place r at unclosed = row_at_with w d r (is_still (row_with d w.rows.items) r (subst (λ z. TrimsAt z (row_with d w.rows.items)) (row_with_at v d place r at) (t.rows d)) unclosed)

  -- ---- what is known of drafts stays

  pub left_stays : (tree : Tree) (l : Left) → IsLeft v tree l → IsLeft w tree l
  left_stays tree l i =
      let s = row_stays l.number i.place i.row i.at (λ closed. (let e : false ≡ true = sym (ap (λ (z : Life). is_done z i.row.retired) i.follows.live) ∙ first (is_done i.row.life i.row.retired) _ closed in cc)) in
      record { place = s.0; row = i.row; at = s.1; follows = i.follows; tree = i.tree }

  rest_stays : (c : Closing) → 0 < c.apps + c.instances → IsRest v c → IsRest w c
  rest_stays c more r =
      let apps = r.apps in
      let instances = r.instances in
      let s = row_stays c.number r.place r.row r.at (λ closed. (let e = closed_ended r.row closed in let a = e.0 in let i = e.1 in absurd (omega (arith, more, apps, instances, a, i)))) in
      record { place = s.0; row = r.row; at = s.1; life = r.life; apps = r.apps; instances = r.instances }

  pub clean_stays : (d : ℕ) → MayClean v d → MayClean w d
  clean_stays d may place r at = let was = row_was d place r at in may was.0 r was.1

  stopped_stays : (n : ℕ) → IsStopped v n → IsStopped w n
  stopped_stays n is =
      let s = row_stays is.row.number is.place is.row (record { number = refl; there = is.there }) (λ closed. (let e : false ≡ true = sym (ap (λ (z : Life). is_done z is.row.retired) is.life ∙ is.unretired) ∙ first (is_done is.row.life is.row.retired) _ closed in cc)) in
      record { place = s.0; row = is.row; there = s.1.there; life = is.life; unretired = is.unretired; stopped = is.stopped }

  pub cleared_stays : (d : ℕ) → IsCleared v d → IsCleared w d
  cleared_stays d is place r at = let was = row_was d place r at in is was.0 r was.1

  pub closing_stays : {F : Type 0} (b : Desk F) → b.books ≡ v → (c : Closing) → IsClosing b c → IsClosing (record b { books = w }) c
  closing_stays b same c is = record {
    superseded = is.superseded;
    rest = λ more. rest_stays c more (subst (λ (z : Books). IsRest z c) same (is.rest more));
  }

  pub retire_stays : {F : Type 0} (b : Desk F) → b.books ≡ v → (n : ℕ) → CanRetire b n → CanRetire (record b { books = w }) n
  retire_stays b same n can = record { superseded = can.superseded; stopped = at n can.stopped; free = can.free }
    where
      at : (n : ℕ) → IsStoppedAt b n → IsStoppedAt (record b { books = w }) n
      at zero is = is
      at (suc n) is = stopped_stays (suc n) (subst (λ (z : Books). IsStopped z (suc n)) same is)

-- ---- one row goes

closed_in : (o : Option Row) → holds is_closed_row o ≡ true → (r : Row) × (o ≡ Some r) × (is_closed_row r ≡ true)
closed_in None e = cc
closed_in (Some r) e = (r, refl, e)

-- the row at a place that is that of a closed draft
pub closed_at : (rows : List Row) (place : ℕ) → holds is_closed_row (slice_get rows place) ≡ true → (r : Row) × (slice_get rows place ≡ Some r) × (is_closed_row r ≡ true)
closed_at rows place e = closed_in (slice_get rows place) e

pub fewer_wait : (rows : List Row) (place : ℕ) (r : Row) → slice_get rows place ≡ Some r → sum_by row_waits (remove rows place) + row_waits r ≡ sum_by row_waits rows
fewer_wait [] place r e = cc
fewer_wait (x ∷ rows) zero r e = let same : row_waits x ≡ row_waits r = ap row_waits (some_is x r e) in let all = sum_by-cons row_waits x rows in omega (arith, same, all)
fewer_wait (x ∷ rows) (suc place) r e =
    let rest = fewer_wait rows place r e in
    let all = sum_by-cons row_waits x rows in
    let less : sum_by row_waits (x ∷ remove rows place) ≡ row_waits x + sum_by row_waits (remove rows place) = sum_by-cons row_waits x (remove rows place) in
    omega (arith, rest, all, less)

no_lease : (b : Bool) (r : Row) (n : ℕ) → is_closed_row r ≡ true → leases_at (Some r) b n ≡ []
no_lease true r n closed = let e = (closed_ended r closed).0 in part_free (slice_get r.apps.parts.items n) (λ a is. r.apps.spent n a is (omega (arith, e)))
no_lease false r n closed = let e = (closed_ended r closed).1 in part_free (slice_get r.modules.parts.items n) (λ a is. r.modules.spent n a is (omega (arith, e)))

module _ (rows : List Row) (to place : ℕ) (r : Row) (numbers : Numbered 0 rows to) (there : slice_get rows place ≡ Some r) (closed : is_closed_row r ≡ true) where
  -- it held nothing
  pub removed_leases : (d n : ℕ) (b : Bool) → leases_at (row_with d (remove rows place)) b n ≡ leases_at (row_with d rows) b n
  removed_leases d n b = ⊎_elim
      (λ q. ap (λ z. leases_at (row_with z (remove rows place)) b n) q.1 ∙ (ap (λ z. leases_at z b n) (with_remove_same 0 rows to place r numbers there)
      ∙ (sym (no_lease b r n closed) ∙ (ap (λ z. leases_at z b n) (sym (with_at 0 rows to place r numbers there)) ∙ ap (λ z. leases_at (row_with z rows) b n) (sym q.1)))))
      (λ q. ap (λ z. leases_at z b n) (with_remove_other d rows place r there q.1)) (eqb_tells d r.number)

  removed_at : (d : ℕ) → TrimsAt (row_with d rows) (row_with d (remove rows place))
  removed_at d = ⊎_elim
      (λ q. subst (λ (z : ℕ). TrimsAt (row_with z rows) (row_with z (remove rows place))) (sym q.1) (subst (λ z. TrimsAt z (row_with r.number (remove rows place))) (sym (with_at 0 rows to place r numbers there)) (subst (λ z. TrimsAt (Some r) z) (sym (with_remove_same 0 rows to place r numbers there)) closed)))
      (λ q. subst (λ z. TrimsAt (row_with d rows) z) (sym (with_remove_other d rows place r there q.1)) (trims_same (row_with d rows)))
      (eqb_tells d r.number)

  pub trims_one : (v w : Books) → v.rows.items ≡ rows → w.rows.items ≡ remove rows place → w.next ≡ v.next → w.pool ≡ v.pool → Trims v w
  trims_one v w before after next pool = record {
    rows = λ d. subst (λ z. TrimsAt (row_with d z) (row_with d w.rows.items)) (sym before) (subst (λ z. TrimsAt (row_with d rows) (row_with d z)) (sym after) (removed_at d));
    next = next;
    pool = pool;
  }

-- after the row of a draft went it has none
pub cleared_one : (v w : Books) (d place : ℕ) → HasRowAt v d place → w.rows.items ≡ remove v.rows.items place → IsCleared w d
cleared_one v w d place at after other r its = absurd (let f : false ≡ true = some_none r (sym (row_with_at w d other r its) ∙ gone) in cc)
  where
    gone : row_with d w.rows.items ≡ None
    gone = ap (row_with d) after ∙ (ap (λ (z : ℕ). row_with z (remove v.rows.items place)) at.1.number ∙ with_remove_same 0 v.rows.items v.next place at.0 v.numbers at.1.there)

-- the place of a draft, where its row is closed
pub closed_place_of : (b : Books) (d place : ℕ) (flag : Bool) → HasRowAt b d place → flag ≡ holds is_closed_row (slice_get b.rows.items place) → IsClosedPlace b d (cond flag (Some place) None)
closed_place_of b d place true at e = (at, sym e)
closed_place_of b d place false at e =
    λ other r its. ap is_closed_row (row_same b d other place r at.0 its at.1) ∙ (ap (holds is_closed_row) (sym at.1.there) ∙ sym e)

pub no_closed_place : (b : Books) (d : ℕ) → row_with d b.rows.items ≡ None → IsClosedPlace b d None
no_closed_place b d none place r at = absurd (let f : false ≡ true = some_none r (sym (row_with_at b d place r at) ∙ none) in cc)

-- ---- what the desk stands for

module _ {F : Type 0} (calls : F → Option (List FixtureCall)) where
  pub trim_keeps : (v : Desk F) (books : Books) → Trims v.books books → Keeps calls v (record v { books = books })
  trim_keeps v books t opening log h = record {
    is_legal = h.is_legal;
    agrees = record {
      serial = a.serial;
      halted = a.halted;
      begun = a.begun;
      drafts = a.drafts ∙ sym t.next;
      rows = λ d. shows d (row_with d v.books.rows.items) (row_with d books.rows.items) (t.rows d) (a.rows d);
      closed = λ d lt none. closed d lt (row_with d v.books.rows.items) refl (subst (λ z. TrimsAt (row_with d v.books.rows.items) z) none (t.rows d));
      retired = a.retired;
      opening_retired = a.opening_retired;
      pairs = a.pairs ∙ ap (λ z. pairs z.held) (sym t.pool);
      tickets = a.tickets;
      at_serial = a.at_serial;
      callers = a.callers;
      told_on = a.told_on;
    };
  }
    where
      s : State
      s = state_at log

      a : Agrees calls opening v (state_at log) (fixture_calls (entries log)) (begins_now (entries log))
      a = h.agrees

      shows : (d : ℕ) (o p : Option Row) → TrimsAt o p → ShowsAt s.retired o (slice_get s.drafts d) → ShowsAt s.retired p (slice_get s.drafts d)
      shows d o None e sh = tt
      shows d None (Some r) e sh = absurd (let f : false ≡ true = some_none r e in cc)
      shows d (Some r) (Some q) e sh = subst (λ (z : Row). ShowsAt s.retired (Some z) (slice_get s.drafts d)) (sym e) sh

      closed : (d : ℕ) → d < books.next → (o : Option Row) → row_with d v.books.rows.items ≡ o → TrimsAt o None → is_closed_in s d ≡ true
      closed d lt None is e = a.closed d (subst (λ z. d < z) t.next lt) is
      closed d lt (Some r) is e =
          let sh : Shown s.retired r (slice_get s.drafts d) = shown s.retired r (slice_get s.drafts d) (subst (λ z. ShowsAt s.retired z (slice_get s.drafts d)) is (a.rows d)) in
          ap (holds (is_closed s.retired)) sh.is ∙ (closed_shown s.retired r sh.draft sh.shows ∙ e)
