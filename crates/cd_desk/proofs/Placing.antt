-- The row of a serial, and the draft that was published with it.
use Rattle.std.proofs.Common.{◌≡◌, ℕ, zero, suc, ◌<◌, ◌≤◌, ◌==◌, Bool, true, false, cond, List, [], ◌∷◌, length, drop, refl, sym, ap, ◌∙◌, arith, subst, Some, None, Option, slice_get}
use Rattle.std.proofs.lemmas.Bool.{eqb-true}
use Rattle.std.proofs.lemmas.Option.{slice_get_within}
use Rattle.cd_outside.specs.declared.fixtures.FixtureCall.{FixtureCall}
use Rattle.cd_legal.specs.declared.state.State.{State}
use Rattle.cd_legal.specs.declared.state.Drafted.{Drafted}
use Rattle.cd_legal.specs.declared.state.Life.{Life}
use Rattle.cd_legal.specs.declared.state.Life.TheVariants.{Live, Published, Abandoned}
use Rattle.cd_legal.specs.State.{holds, has_number, draft_of, may_clean_instances}
use Rattle.cd_legal.specs.Serials.{has_serial, has_serial_in}
use Rattle.cd_legal.specs.Whole.{is_closed, is_closed_in}
use Rattle.cd_legal.proofs.Serials.{Agree}
use Rattle.cd_legal.proofs.Facts.{There, there}
use Rattle.cd_legal.proofs.Histories.{first}
use Rattle.cd_desk.specs.declared.row.Row.{Row}
use Rattle.cd_desk.specs.declared.desk.Desk.{Desk}
use Rattle.cd_desk.specs.Rows.{Shows, ShowsAt, is_retired, row_with}
use Rattle.cd_desk.specs.Desks.{Agrees}
use Rattle.cd_desk.specs.Serials.{row_of}
use Rattle.cd_desk.proofs.Lists.{some_is, some_none}
use Rattle.cd_desk.proofs.Numbers.{at_with, with_at}
use Rattle.cd_desk.proofs.Standing.{Shown, shown}

-- it was published with the serial
pub serial_life : (n : ℕ) (l : Life) → has_serial n l ≡ true → l ≡ Published n
serial_life n Live e = cc
serial_life n (Published m) e = ap (λ (z : ℕ). Published z) (eqb-true m n e)
serial_life n Abandoned e = cc

-- the row that is found was
found_first : (n : ℕ) (x : Row) (rest : Option Row) (r : Row) (b : Bool) → has_serial n x.life ≡ b → (rest ≡ Some r → has_serial n r.life ≡ true) → cond b (Some x) rest ≡ Some r → has_serial n r.life ≡ true
found_first n x rest r true is on e = ap (λ (z : Row). has_serial n z.life) (sym (some_is x r e)) ∙ is
found_first n x rest r false is on e = on e

pub row_of-has : (n : ℕ) (rows : List Row) (r : Row) → row_of n rows ≡ Some r → has_serial n r.life ≡ true
row_of-has n [] r e = absurd (let f : false ≡ true = some_none r (sym e) in cc)
row_of-has n (x ∷ rows) r e = found_first n x (row_of n rows) r (has_serial n x.life) refl (row_of-has n rows r) e

-- where none is found no row was
none_first : (n : ℕ) (x : Row) (rest : Option Row) (b : Bool) → has_serial n x.life ≡ b → cond b (Some x) rest ≡ None → (has_serial n x.life ≡ false) × (rest ≡ None)
none_first n x rest true is e = absurd (let f : false ≡ true = some_none x e in cc)
none_first n x rest false is e = (is, e)

pub row_of-none : (n : ℕ) (rows : List Row) (i : ℕ) (r : Row) → row_of n rows ≡ None → slice_get rows i ≡ Some r → has_serial n r.life ≡ false
row_of-none n [] i r e is = absurd (let f : false ≡ true = some_none r (sym is) in cc)
row_of-none n (x ∷ rows) zero r e is = ap (λ (z : Row). has_serial n z.life) (sym (some_is x r is)) ∙ (none_first n x (row_of n rows) (has_serial n x.life) refl e).0
row_of-none n (x ∷ rows) (suc i) r e is = row_of-none n rows i r (none_first n x (row_of n rows) (has_serial n x.life) refl e).1 is

-- one that is met first is found
pub row_of-here : (n : ℕ) (rows : List Row) (place : ℕ) (r : Row) → slice_get rows place ≡ Some r → has_serial n r.life ≡ true → row_of n (drop place rows) ≡ Some r
row_of-here n [] place r e has = absurd (let f : false ≡ true = some_none r (sym e) in cc)
row_of-here n (x ∷ rows) zero r e has = ap (λ (z : Row). row_of n (z ∷ rows)) (some_is x r e) ∙ ap (λ (b : Bool). cond b (Some r) (row_of n rows)) has
row_of-here n (x ∷ rows) (suc place) r e has = row_of-here n rows place r e has

-- the draft of a row, by what the row shows
pub record RowDraft (s : State) (n d : ℕ) (r : Row) : Type 0 where
  pub draft : Drafted
  pub there : slice_get s.drafts d ≡ Some draft
  pub shows : Shows s.retired r draft
  pub life : draft.life ≡ Published n
  pub serial : draft_of n s.published ≡ Some d

get_there : {A : Type 0} (xs : List A) (n : ℕ) → n < length xs → (d : A) × (slice_get xs n ≡ Some d)
get_there [] n lt = absurd (omega arith)
get_there (x ∷ xs) zero lt = (x, refl)
get_there (x ∷ xs) (suc n) lt = get_there xs n (omega arith)

bit : (b : Bool) → cond {A = ℕ} b 1 0 ≤ 1
bit true = omega arith
bit false = omega arith

module _ {F : Type 0} (calls : F → Option (List FixtureCall)) (opening b : Desk F) (s : State) (told : List FixtureCall) (count : ℕ) (agree : Agree s) (a : Agrees calls opening b s told count) where
  -- the draft of a row
  pub draft_at : (place : ℕ) (r : Row) → slice_get b.books.rows.items place ≡ Some r → Shown s.retired r (slice_get s.drafts r.number)
  draft_at place r there =
      let is : row_with r.number b.books.rows.items ≡ Some r = with_at 0 b.books.rows.items b.books.next place r b.books.numbers there in
      shown s.retired r (slice_get s.drafts r.number) (subst (λ z. ShowsAt s.retired z (slice_get s.drafts r.number)) is (a.rows r.number))

  pub found : (n place : ℕ) (r : Row) → slice_get b.books.rows.items place ≡ Some r → has_serial n r.life ≡ true → RowDraft s n r.number r
  found n place r there has =
      let sh = draft_at place r there in
      let life : sh.draft.life ≡ Published n = sh.shows.life ∙ serial_life n r.life has in
      record {
        draft = sh.draft;
        there = sh.is;
        shows = sh.shows;
        life = life;
        serial = agree.published n r.number (ap (holds (λ x. has_serial n x.life)) sh.is ∙ (ap (has_serial n) sh.shows.life ∙ has));
      }

  within : (d : ℕ) (x : Drafted) → slice_get s.drafts d ≡ Some x → d < b.books.next
  within d x is = let all = a.drafts in let low = slice_get_within s.drafts d x is in omega (arith, all, low)

  -- a published draft without a row of its serial is closed
  pub gone : (n d : ℕ) → row_of n b.books.rows.items ≡ None → draft_of n s.published ≡ Some d → is_closed_in s d ≡ true
  gone n d none serial = at (row_with d b.books.rows.items) refl
    where
      t : There (λ x. has_serial n x.life) s.drafts d
      t = there (λ x. has_serial n x.life) s.drafts d (agree.lives n d serial)

      at : (o : Option Row) → row_with d b.books.rows.items ≡ o → is_closed_in s d ≡ true
      at None is = a.closed d (within d t.draft t.is) is
      at (Some r) is =
          let p = at_with d b.books.rows.items r is in
          let sh : Shows s.retired r t.draft = subst (λ z. ShowsAt s.retired (Some r) z) t.is (subst (λ z. ShowsAt s.retired z (slice_get s.drafts d)) is (a.rows d)) in
          absurd (let f : false ≡ true = sym (row_of-none n b.books.rows.items p.0 r none p.1) ∙ (ap (has_serial n) (sym sh.life) ∙ t.passes) in cc)

  -- ---- whether a serial is retired

  published_there : (n : ℕ) → suc n < s.serial → (d : ℕ) × (slice_get s.published n ≡ Some d)
  published_there n lt = let all = agree.count in let one = bit s.halted in get_there s.published n (omega (arith, all, one, lt))

  closed_retired : (n d : ℕ) → has_serial_in s n d ≡ true → is_closed_in s d ≡ true → has_number n s.retired ≡ true
  closed_retired n d has closed =
      let t : There (λ x. has_serial n x.life) s.drafts d = there (λ x. has_serial n x.life) s.drafts d has in
      ap (may_clean_instances s.retired) (sym (serial_life n t.draft.life t.passes)) ∙ first (may_clean_instances s.retired t.draft.life) _ (ap (holds (is_closed s.retired)) (sym t.is) ∙ closed)

  pub retired_none : (n : ℕ) → (n == 0) ≡ false → n < b.serial → row_of n b.books.rows.items ≡ None → has_number n s.retired ≡ true
  retired_none zero some lt none = cc
  retired_none (suc n) some lt none =
      let serial : s.serial ≡ b.serial = a.serial in
      let p = published_there n (omega (arith, serial, lt)) in
      closed_retired (suc n) p.0 (agree.lives (suc n) p.0 p.1) (gone (suc n) p.0 none p.1)

  pub retired_row : (n place : ℕ) (r : Row) → slice_get b.books.rows.items place ≡ Some r → has_serial n r.life ≡ true → has_number n s.retired ≡ r.retired
  retired_row n place r there has = let x = found n place r there has in ap (is_retired s.retired) (sym x.life) ∙ x.shows.over

  pub retired_late : (n : ℕ) → b.serial ≤ n → has_number n s.retired ≡ false
  retired_late n le = at (has_number n s.retired) refl
    where
      at : (c : Bool) → has_number n s.retired ≡ c → has_number n s.retired ≡ false
      at false is = is
      at true is = absurd (let low = a.retired n is in let serial : s.serial ≡ b.serial = a.serial in omega (arith, low, serial, le))
