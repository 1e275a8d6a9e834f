-- What a desk stands for after an app is stopped, or an instance is cleaned.
use Rattle.std.proofs.Common.{◌≡◌, ℕ, ◌+◌, ◌-◌, ◌<◌, ◌||◌, Bool, true, false, List, ◌++◌, None, refl, sym, ap, ◌∙◌, arith, Some, Option, slice_get, subst, min}
use Rattle.cd_outside.specs.declared.fixtures.FixtureCall.{FixtureCall}
use Rattle.cd_outside.specs.FixtureCall.{CallsGrow}
use Rattle.cd_outside.specs.Counts.{count_end}
use Rattle.cd_outside.specs.declared.holder.Holder.{Holder}
use Rattle.cd_outside.specs.Keys.{without_holder}
use Rattle.cd_pool.specs.Pairs.{pairs}
use Rattle.cd_legal.specs.declared.part.Part.{Part}
use Rattle.cd_legal.specs.declared.part.Part.TheVariants.{Instance, App}
use Rattle.cd_legal.specs.declared.entry.Entry.{Entry}
use Rattle.cd_legal.specs.declared.state.State.{State}
use Rattle.cd_legal.specs.declared.state.Drafted.{Drafted}
use Rattle.cd_legal.specs.declared.state.Life.{Life}
use Rattle.cd_legal.specs.declared.state.Life.TheVariants.{Live, Published, Abandoned}
use Rattle.cd_legal.specs.State.{holds, change_at, part_of, one_ended, may_clean_instances, may_stop_apps}
use Rattle.cd_legal.specs.Legal.{allowed, after, part_ended}
use Rattle.cd_legal.specs.Abandoned.{is_abandoned}
use Rattle.cd_legal.specs.Steps.{may_end}
use Rattle.cd_legal.specs.Calls.{key_calls, givings}
use Rattle.cd_legal.specs.Begins.{begins_by}
use Rattle.cd_legal.specs.Whole.{is_closed_in}
use Rattle.cd_legal.proofs.Places.{length_change}
use Rattle.cd_legal.proofs.Facts.{may_stop-by, may_clean-by}
use Rattle.cd_desk.specs.declared.row.Row.{Row}
use Rattle.cd_desk.specs.declared.books.Books.{Books}
use Rattle.cd_desk.specs.declared.desk.Desk.{Desk}
use Rattle.cd_desk.specs.Rows.{Shows, ShowsAt, line_at, is_retired, row_with}
use Rattle.cd_desk.specs.Books.{HasRowAt, Ends, other}
use Rattle.cd_desk.specs.Desks.{Agrees}
use Rattle.cd_desk.specs.Closings.{CanEndOf, MayEnd, ending_entry}
use Rattle.cd_desk.proofs.Keeping.{calls_join}
use Rattle.cd_desk.proofs.Lists.{same_at}
use Rattle.cd_desk.proofs.Numbers.{at_place, number_of, none_before}
use Rattle.cd_desk.proofs.Parts.{line_part}
use Rattle.cd_desk.proofs.Standing.{Known, Shown, shown_at, rows_after, closed_stays}

clean_life : (l : Life) (b : Bool) (retired : List ℕ) → is_retired retired l ≡ b → (is_abandoned l || b) ≡ true → may_clean_instances retired l ≡ true
clean_life Live b retired is e = let f : false ≡ true = is ∙ e in cc
clean_life (Published n) b retired is e = is ∙ e
clean_life Abandoned b retired is e = refl

may_ends : {F : Type 0} (p : Part) (v : Desk F) (s : State) (r : Row) (x : Drafted) (i : ℕ) → s.serial ≡ v.serial → Shows s.retired r x → MayEnd p v r → (line_at p r).ended < (line_at p r).opened → i ≡ (line_at p r).opened - (line_at p r).ended - 1 → may_end p i s x ≡ true
may_ends Instance v s r x i serial sh may left is =
    let made = sh.made in
    let cleaned = sh.cleaned in
    may_clean-by i s.retired x (record {
      done = clean_life x.life r.retired s.retired sh.over (ap (λ (z : Life). is_abandoned z || r.retired) sh.life ∙ may.0);
      stopped = sh.stopped ∙ (may.1 ∙ sym sh.started);
      next = omega (arith, made, cleaned, left, is);
    })
may_ends App v s r x i serial sh may left is =
    let started = sh.started in
    let stopped = sh.stopped in
    may_stop-by i s.serial x (record { over = ap (λ (z : Life). may_stop_apps s.serial z) sh.life ∙ (ap (λ (z : ℕ). may_stop_apps z r.life) serial ∙ may); next = omega (arith, started, stopped, left, is) })

-- the row of an ending shows the draft
shows_ended : (p : Part) (retired : List ℕ) (r t : Row) (x : Drafted) → Shows retired r x → t.tree ≡ r.tree → t.plan ≡ r.plan → (line_at p t).opened ≡ (line_at p r).opened → (line_at p t).ended ≡ (line_at p r).ended + 1 → line_at (other p) t ≡ line_at (other p) r → t.failed ≡ r.failed → t.life ≡ r.life
    → t.retired ≡ r.retired → Shows retired t (one_ended p x)
shows_ended Instance retired r t x sh tree plan opened ended others failed life over = record {
  tree = sh.tree ∙ ap (λ z. z.value) (sym tree);
  plan = sh.plan ∙ ap (λ z. z.value) (sym plan);
  made = sh.made ∙ sym opened;
  started = sh.started ∙ ap (λ z. z.opened) (sym others);
  failed = sh.failed ∙ sym failed;
  life = sh.life ∙ sym life;
  stopped = sh.stopped ∙ ap (λ z. z.ended) (sym others);
  cleaned = ap (λ (z : ℕ). z + 1) sh.cleaned ∙ sym ended;
  over = sh.over ∙ sym over;
}
shows_ended App retired r t x sh tree plan opened ended others failed life over = record {
  tree = sh.tree ∙ ap (λ z. z.value) (sym tree);
  plan = sh.plan ∙ ap (λ z. z.value) (sym plan);
  made = sh.made ∙ ap (λ z. z.opened) (sym others);
  started = sh.started ∙ sym opened;
  failed = sh.failed ∙ sym failed;
  life = sh.life ∙ sym life;
  stopped = ap (λ (z : ℕ). z + 1) sh.stopped ∙ sym ended;
  cleaned = sh.cleaned ∙ ap (λ z. z.ended) (sym others);
  over = sh.over ∙ sym over;
}

entry_may : (p : Part) (s : State) (d i : ℕ) → allowed s (ending_entry p d i) ≡ holds (may_end p i s) (slice_get s.drafts d)
entry_may Instance s d i = refl
entry_may App s d i = refl

entry_after : (p : Part) (s : State) (d i : ℕ) → after s (ending_entry p d i) ≡ part_ended p d i s
entry_after Instance s d i = refl
entry_after App s d i = refl

entry_keys : (p : Part) (s : State) (d i : ℕ) → key_calls s (ending_entry p d i) ≡ givings (part_of p d i) s.pairs
entry_keys Instance s d i = refl
entry_keys App s d i = refl

entry_begun : (p : Part) (d i count : ℕ) → begins_by count (ending_entry p d i) ≡ count
entry_begun Instance d i count = refl
entry_begun App d i count = refl

-- what is there of the draft, and what it is afterwards
pub record Ended {F : Type 0} (calls : F → Option (List FixtureCall)) (p : Part) (opening w : Desk F) (s : State) (told : List FixtureCall) (count d i : ℕ) (r : Row) : Type 0 where
  pub draft : Drafted
  pub there : slice_get s.drafts d ≡ Some draft
  pub shows : Shows s.retired r draft
  pub may : allowed s (ending_entry p d i) ≡ true
  pub agrees : Agrees calls opening w (after s (ending_entry p d i)) (told ++ key_calls s (ending_entry p d i)) (begins_by count (ending_entry p d i))

module _ {F : Type 0} (calls : F → Option (List FixtureCall)) where
  pub ends : (p : Part) (v : Desk F) (fixtures : F) (books : Books) (d place : ℕ) (can : CanEndOf p v d) → HasRowAt v.books d place → (o : Ends p place v.books books (calls v.fixtures) (calls fixtures)) (opening : Desk F) (s : State) (told : List FixtureCall) (count : ℕ) → Known s → Agrees calls opening v s told count
      → Ended calls p opening (record v { fixtures = fixtures; books = books }) s told count d ((line_at p o.changes.was).opened - (line_at p o.changes.was).ended - 1) o.changes.was
  ends p v fixtures books d place can at o opening s told count known a =
      let w : Desk F = record v { fixtures = fixtures; books = books } in
      let r : Row = o.changes.was in
      let t : Row = o.changes.is in
      let i : ℕ = (line_at p r).opened - (line_at p r).ended - 1 in
      let e : Entry = ending_entry p d i in
      let number : d ≡ r.number = number_of v.books books d place o.changes at in
      let row_is : can.row ≡ r = same_at v.books.rows.items place can.row r (at_place v.books d can.place place can.row can.at at) o.changes.there in
      let sh : Shown s.retired r (slice_get s.drafts d) = shown_at calls opening v s told count a d place r number o.changes.there in
      let x : Drafted = sh.draft in
      let there : slice_get s.drafts d ≡ Some x = sh.is in
      let left : (line_at p r).ended < (line_at p r).opened = subst (λ (z : Row). (line_at p z).ended < (line_at p z).opened) row_is can.left in
      let may : allowed s e ≡ true = entry_may p s d i ∙ (ap (holds (may_end p i s)) there ∙ may_ends p v s r x i a.serial sh.shows (subst (λ (z : Row). MayEnd p v z) row_is can.may) left refl) in
      let holder : part_of (line_at p r).part r.number i ≡ part_of p d i = ap (λ z. part_of z r.number i) (line_part p r) ∙ ap (λ z. part_of p z i) (sym number) in
      let f : Drafted → Drafted = one_ended p in
      record {
        draft = x;
        there = there;
        shows = sh.shows;
        may = may;
        agrees = subst (λ z. Agrees calls opening w z (told ++ key_calls s e) (begins_by count e)) (sym (entry_after p s d i))
            (record {
              serial = a.serial;
              halted = a.halted;
              begun = ap (λ (z : ℕ). min z count_end) (entry_begun p d i count) ∙ a.begun;
              drafts = length_change f s.drafts d ∙ (a.drafts ∙ sym o.changes.next);
              rows = λ j. subst (λ z. ShowsAt s.retired (row_with j z) (slice_get (change_at f d s.drafts) j)) (sym o.changes.rows)
                  (rows_after s.retired v.books.rows.items s.drafts f d v.books.next place r t x v.books.numbers o.changes.there o.changes.number number sh.is (shows_ended p s.retired r t x sh.shows o.changes.tree o.changes.plan o.ends.opened o.ends.ended o.others o.failed o.life o.retired) a.rows j);
              closed = λ j lt none. subst (λ z. is_closed_in z j ≡ true) (entry_after p s d i)
                  (closed_stays s e j may (a.closed j (subst (λ z. j < z) o.changes.next lt) (none_before j 0 v.books.rows.items v.books.next place r t v.books.numbers o.changes.there o.changes.number (subst (λ z. row_with j z ≡ None) o.changes.rows none))));
              retired = a.retired;
              opening_retired = a.opening_retired;
              pairs = ap (λ z. without_holder (part_of p d i) z) a.pairs ∙ (ap (λ (z : Holder). without_holder z (pairs v.books.pool.held)) (sym holder) ∙ sym o.ends.gives.left);
              tickets = a.tickets;
              at_serial = a.at_serial;
              callers = a.callers;
              told_on = subst (λ z. CallsGrow (calls opening.fixtures) (told ++ z) (calls fixtures)) (sym (entry_keys p s d i))
                  (calls_join (calls opening.fixtures) (calls v.fixtures) (calls fixtures) told (givings (part_of p d i) s.pairs) a.told_on
                  (subst (λ z. CallsGrow (calls v.fixtures) (givings (part_of p d i) z) (calls fixtures)) (sym a.pairs) (subst (λ (z : Holder). CallsGrow (calls v.fixtures) (givings z (pairs v.books.pool.held)) (calls fixtures)) holder o.ends.gives.calls)));
            });
      }
