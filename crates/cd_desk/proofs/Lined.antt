-- What the books keep while one of a line of a row is opened or ended, or the row is changed beside its lines.
use Rattle.std.proofs.Common.{◌≡◌, ℕ, ◌-◌, ◌<◌, ◌≤◌, Bool, false, List, [], length, refl, sym, ap, ◌∙◌, arith, Some, Option, Result, set, slice_get, get_or, subst, sum_by, IfSome, is_err}
use Rattle.std.proofs.lemmas.Option.{slice_get_read, slice_get_within}
use Rattle.cd_outside.specs.declared.key.Key.{Key}
use Rattle.cd_outside.specs.declared.fixtures.FixtureCall.{FixtureCall}
use Rattle.cd_outside.specs.declared.holder.Holder.{Holder}
use Rattle.cd_outside.specs.Keys.{holder_eq}
use Rattle.cd_pool.specs.Pairs.{Holdings, leases_of}
use Rattle.cd_legal.specs.declared.part.Part.{Part}
use Rattle.cd_legal.specs.State.{part_of, is_app}
use Rattle.cd_desk.specs.declared.line.Line.{Line}
use Rattle.cd_desk.specs.declared.row.Row.{Row}
use Rattle.cd_desk.specs.declared.books.Books.{Books}
use Rattle.cd_desk.specs.Lines.{OpensNext, EndsLast}
use Rattle.cd_desk.specs.Rows.{Numbered, line_at, leases_at, place_in, row_waits, row_with}
use Rattle.cd_desk.specs.Books.{Changes, Opens, Ends, other}
use Rattle.cd_desk.specs.Waiting.{waits}
use Rattle.cd_desk.proofs.Lists.{same_at}
use Rattle.cd_desk.proofs.Numbers.{with_at, numbered_set}
use Rattle.cd_desk.proofs.Parts.{line_part, room_for, line_free, held_by, part_leases, sum_less, sum_kept, one_waits_of, taken_is, row_leases, row_room}

-- what books with these rows keep
abbrev pub Kept : ℕ → List Row → ℕ → Holdings → Type 0
Kept next rows count pool = record {
  numbers : Numbered 0 rows next;
  leases : (draft i : ℕ) (app : Bool) → leases_of (place_in draft app i) pool.held ≡ leases_at (row_with draft rows) app i;
  sum : count ≡ sum_by row_waits rows;
  room : count ≤ pool.spare;
}

pub row_there : (b : Books) (place : ℕ) (r : Row) → place < length b.rows.items → r ≡ get_or b.rows.items place r → slice_get b.rows.items place ≡ Some r
row_there b place r within is = slice_get_read b.rows.items (length b.rows.items) place r refl within is

-- a row that keeps its lines
pub beside_kept : (b : Books) (place : ℕ) (r t : Row) → place < length b.rows.items → r ≡ get_or b.rows.items place r → t.modules ≡ r.modules → t.apps ≡ r.apps → t.number ≡ r.number → Kept b.next (set b.rows.items place t) b.waits b.pool
beside_kept b place r t within is modules apps same =
    let there = row_there b place r within is in
    record {
      numbers = numbered_set 0 b.rows.items b.next place r t b.numbers there same;
      leases = λ d n app. b.leases d n app ∙ sym (row_leases b.next place r t modules apps same b.rows.items b.numbers there d n app);
      sum = b.sum ∙ sym (row_room b.next place r t modules apps same b.rows.items b.numbers there);
      room = b.room;
    }

-- ---- one of a line

-- a row in place of another, with its other line
pub record Beside (p : Part) (r t : Row) : Type 0 where
  pub number : t.number ≡ r.number
  pub tree : t.tree ≡ r.tree
  pub plan : t.plan ≡ r.plan
  pub others : line_at (other p) t ≡ line_at (other p) r
  pub life : t.life ≡ r.life
  pub retired : t.retired ≡ r.retired

-- the row that is read is the one of which its caller knows
module _ (p : Part) (b : Books) (place : ℕ) (r was : Row) (at : slice_get b.rows.items place ≡ Some was) (is : r ≡ get_or b.rows.items place r) where
  there : slice_get b.rows.items place ≡ Some r
  there = row_there b place r (slice_get_within b.rows.items place was at) is

  same : was ≡ r
  same = same_at b.rows.items place was r at there

  its : row_with r.number b.rows.items ≡ Some r
  its = with_at 0 b.rows.items b.next place r b.numbers there

  holder_is : (i : ℕ) → part_of (line_at p r).part r.number i ≡ part_of p r.number i
  holder_is i = ap (λ (z : Part). part_of z r.number i) (line_part p r)

  pub end_left : (line_at p was).ended < (line_at p was).opened → (line_at p r).ended < (line_at p r).opened
  end_left left = subst (λ (z : Row). (line_at p z).ended < (line_at p z).opened) same left

  pub last_holds : IfSome (slice_get (line_at p r).parts.items ((line_at p r).opened - (line_at p r).ended - 1)) (λ a. a.leases.items ≡ leases_of (part_of (line_at p r).part r.number ((line_at p r).opened - (line_at p r).ended - 1)) b.pool.held)
  last_holds = held_by p r.number _ b.rows.items r (line_at p r).part b.pool.held its (line_part p r) (b.leases r.number ((line_at p r).opened - (line_at p r).ended - 1) (is_app p))

  pub ended_kept : (m : Line) (new : Holdings) (before after : Option (List FixtureCall)) → EndsLast r.number (line_at p r) m b.pool new before after → (t : Row) → line_at p t ≡ m → Beside p r t → Kept b.next (set b.rows.items place t) b.waits new
  ended_kept m new before after o t line on =
      let parts : (line_at p t).parts.items ≡ set (line_at p r).parts.items ((line_at p r).opened - (line_at p r).ended - 1) o.is = ap (λ (z : Line). z.parts.items) line ∙ o.parts in
      let i : ℕ = (line_at p r).opened - (line_at p r).ended - 1 in
      let own : o.is.leases.items ≡ leases_of (part_of p r.number i) new.held = o.empty ∙ (sym o.gives.none ∙ ap (λ h. leases_of h new.held) (holder_is i)) in
      record {
        numbers = numbered_set 0 b.rows.items b.next place r t b.numbers there on.number;
        leases = part_leases b.next place i p r t o.was o.is b.pool.held new.held o.there parts on.others on.number own (λ h ne. o.gives.others h (subst (λ (z : Holder). holder_eq h z ≡ false) (sym (holder_is i)) ne)) b.rows.items b.numbers there b.leases;
        sum = sum_kept place i p r t o.was o.is o.there parts on.others b.rows.items there b.waits (ap length o.waiting) b.sum;
        room = (let spare = o.spare in let room = b.room in omega (arith, spare, room));
      }

  abbrev changed : (w : Books) (t : Row) → w.next ≡ b.next → w.rows.items ≡ set b.rows.items place t → Beside p r t → Changes place b w
  changed w t next rows on = record { was = r; is = t; there = there; rows = rows; number = on.number; next = next; tree = on.tree; plan = on.plan }

  pub ends_in : (w : Books) (t : Row) (before after : Option (List FixtureCall)) → w.next ≡ b.next → w.rows.items ≡ set b.rows.items place t → Beside p r t → t.failed ≡ r.failed → EndsLast r.number (line_at p r) (line_at p t) b.pool w.pool before after → Ends p place b w before after
  ends_in w t before after next rows on failed o = record { changes = changed w t next rows on; ends = o; others = on.others; failed = failed; life = on.life; retired = on.retired }

  pub opens_in : (w : Books) (t : Row) (before after : Option (List FixtureCall)) (result : Result (Unit {0}) Key) → w.next ≡ b.next → w.rows.items ≡ set b.rows.items place t → Beside p r t → t.failed ≡ is_err result → OpensNext r.number (line_at p r) (line_at p t) b.pool w.pool before after result → Opens p place b w before after result
  opens_in w t before after result next rows on failed o = record { changes = changed w t next rows on; opens = o; others = on.others; failed = failed; life = on.life; retired = on.retired }

  pub open_left : (line_at p was).opened < length (line_at p was).parts.items → (line_at p r).opened < length (line_at p r).parts.items
  open_left left = subst (λ (z : Row). (line_at p z).opened < length (line_at p z).parts.items) same left

  pub none_ended : (line_at p was).ended ≡ 0 → (line_at p r).ended ≡ 0
  none_ended none = ap (λ (z : Row). (line_at p z).ended) (sym same) ∙ none

  pub next_fits : IfSome (slice_get (line_at p r).parts.items (line_at p r).opened) (λ a. waits a ≤ b.pool.spare)
  next_fits = room_for b.rows.items p place r (line_at p r).opened b.pool.spare there (subst (λ (z : ℕ). z ≤ b.pool.spare) b.sum b.room)

  pub next_free : leases_of (part_of (line_at p r).part r.number (line_at p r).opened) b.pool.held ≡ []
  next_free = subst (λ (z : Part). leases_of (part_of z r.number (line_at p r).opened) b.pool.held ≡ []) (sym (line_part p r)) (b.leases r.number (line_at p r).opened (is_app p) ∙ line_free p b.rows.items r.number r _ its (line_at p r).wait)

  module _ (m : Line) (new : Holdings) (before after : Option (List FixtureCall)) (result : Result (Unit {0}) Key) (n : ℕ) (o : OpensNext r.number (line_at p r) m b.pool new before after result) (takes : IfSome (slice_get (line_at p r).parts.items (line_at p r).opened) (λ a. n ≡ waits a)) where
    taken : n ≡ waits o.was
    taken = taken_is (line_at p r).parts.items (line_at p r).opened o.was n o.there takes

    pub taken_within : n ≤ b.waits
    taken_within = let takes = taken in let one = one_waits_of b.rows.items p place r (line_at p r).opened o.was there o.there in let sum = b.sum in omega (arith, takes, one, sum)

    pub opened_kept : (t : Row) → line_at p t ≡ m → Beside p r t → Kept b.next (set b.rows.items place t) (b.waits - n) new
    opened_kept t line on =
        let i : ℕ = (line_at p r).opened in
        let parts : (line_at p t).parts.items ≡ set (line_at p r).parts.items (line_at p r).opened o.is = ap (λ (z : Line). z.parts.items) line ∙ o.parts in
        record {
          numbers = numbered_set 0 b.rows.items b.next place r t b.numbers there on.number;
          leases = part_leases b.next place i p r t o.was o.is b.pool.held new.held o.there parts on.others on.number (o.takes.2.leases ∙ ap (λ h. leases_of h new.held) (holder_is i)) (λ h ne. o.takes.2.others h (subst (λ (z : Holder). holder_eq h z ≡ false) (sym (holder_is i)) ne)) b.rows.items b.numbers there b.leases;
          sum = sum_less place i p r t o.was o.is o.there parts on.others b.rows.items there b.waits n taken o.none b.sum;
          room = (let takes = taken in let spare = o.spare in let room = b.room in omega (arith, takes, spare, room));
        }
