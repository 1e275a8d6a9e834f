-- A desk on which what was left of a draft is ended one by one.
use Rattle.std.proofs.Common.{◌≡◌, ℕ, ◌+◌, ◌-◌, ◌<◌, ◌==◌, ◌&&◌, ◌||◌, Bool, true, cond, List, [], ◌∷◌, ◌++◌, refl, sym, ap, ◌∙◌, arith, Some, None, Option, subst, append_assoc}
use Rattle.cd_outside.specs.declared.fixtures.FixtureCall.{FixtureCall}
use Rattle.cd_outside.specs.declared.fixtures.FixtureCall.TheVariants.{Shut}
use Rattle.cd_outside.specs.FixtureCall.{CallsGrow}
use Rattle.cd_legal.specs.declared.part.Part.{Part}
use Rattle.cd_legal.specs.declared.part.Part.TheVariants.{Instance, App}
use Rattle.cd_legal.specs.declared.entry.Entry.{Entry}
use Rattle.cd_legal.specs.declared.entry.Entry.TheVariants.{Stopped, Cleaned}
use Rattle.cd_legal.specs.declared.state.Life.{Life}
use Rattle.cd_legal.specs.declared.state.Drafted.{Drafted}
use Rattle.cd_legal.specs.State.{may_stop_apps}
use Rattle.cd_legal.specs.Legal.{after}
use Rattle.cd_legal.specs.Abandoned.{is_abandoned}
use Rattle.cd_legal.specs.Serials.{has_serial}
use Rattle.cd_legal.specs.Calls.{key_calls, is_shut, shutting}
use Rattle.cd_legal.proofs.Facts.{less-is}
use Rattle.cd_desk.specs.declared.line.Line.{Line}
use Rattle.cd_desk.specs.declared.row.Row.{Row}
use Rattle.cd_desk.specs.declared.books.Books.{Books}
use Rattle.cd_desk.specs.declared.desk.Desk.{Desk}
use Rattle.cd_desk.specs.declared.closing.Closing.{Closing}
use Rattle.cd_desk.specs.Books.{HasRowAt, Changes, Ends, CanEnd}
use Rattle.cd_desk.specs.Desks.{Agrees}
use Rattle.cd_desk.specs.Closings.{IsRest, IsClosing, MayClean, may_clean_row, life_by, CanEndOf}
use Rattle.cd_desk.proofs.Numbers.{at_place, number_of, row_same}
use Rattle.cd_desk.proofs.Counts.{now_at, was_at}
use Rattle.cd_desk.proofs.Standing.{Steps, plain_calls}
use Rattle.cd_desk.proofs.Endings.{Ended, ends}
use Rattle.cd_desk.proofs.Shuttings.{stop_shuts, with_calls}

closing_may : {F : Type 0} (v : Desk F) (o : Option ℕ) (l : Life) → ((n : ℕ) → o ≡ Some n → n < v.serial) → l ≡ life_by o → may_stop_apps v.serial l ≡ true
closing_may v None l below is = ap (may_stop_apps v.serial) is
closing_may v (Some n) l below is = ap (may_stop_apps v.serial) is ∙ less-is n v.serial (below n refl)

-- an app that is left may be stopped
pub can_stop : {F : Type 0} (v : Desk F) (c : Closing) → IsClosing v c → 0 < c.apps → CanEndOf App v c.number
can_stop v c is more =
    let r : IsRest v.books c = is.rest (omega (arith, more)) in
    let apps = r.apps in
    record { place = r.place; row = r.row; at = r.at; may = closing_may v c.serial r.row.life is.superseded r.life; left = omega (arith, apps, more) }

-- an instance that is left may be cleaned where no app is left
pub can_clean : {F : Type 0} (v : Desk F) (c : Closing) → IsClosing v c → c.apps ≡ 0 → 0 < c.instances → MayClean v.books c.number → CanEndOf Instance v c.number
can_clean v c is none more may =
    let r : IsRest v.books c = is.rest (omega (arith, more)) in
    let apps = r.apps in
    let instances = r.instances in
    record { place = r.place; row = r.row; at = r.at; may = (may r.place r.row r.at, omega (arith, apps, none)); left = omega (arith, instances, more) }

pub can_end : {F : Type 0} (p : Part) (v : Desk F) (d place : ℕ) → CanEndOf p v d → HasRowAt v.books d place → CanEnd p v.books place
can_end p v d place can at = (can.row, at_place v.books d can.place place can.row can.at at, can.left)

-- ---- what is left afterwards

-- the row changes, and so does what is left
rest_on : (v w : Books) (c k : Closing) (place : ℕ) → HasRowAt v c.number place → IsRest v c → (m : Changes place v w) → m.is.life ≡ m.was.life → k.number ≡ c.number → k.serial ≡ c.serial
    → (m.was.apps.ended + c.apps ≡ m.was.apps.opened → m.is.apps.ended + k.apps ≡ m.is.apps.opened) → (m.was.modules.ended + c.instances ≡ m.was.modules.opened → m.is.modules.ended + k.instances ≡ m.is.modules.opened) → IsRest w k
rest_on v w c k place number r m life same serial apps instances =
    let was : r.row ≡ m.was = was_at v w c.number place r.place r.row m number r.at in
    let now = now_at v w c.number place m number in
    record {
      place = place;
      row = m.is;
      at = record { number = same ∙ now.number; there = now.there };
      life = life ∙ (ap (λ (z : Row). z.life) (sym was) ∙ (r.life ∙ ap life_by (sym serial)));
      apps = apps (subst (λ (z : Row). z.apps.ended + c.apps ≡ z.apps.opened) was r.apps);
      instances = instances (subst (λ (z : Row). z.modules.ended + c.instances ≡ z.modules.opened) was r.instances);
    }

-- of a line of which one is ended one less is left, and of the other as much
one_less : (l m : Line) (n : ℕ) → 0 < n → m.opened ≡ l.opened → m.ended ≡ l.ended + 1 → l.ended + n ≡ l.opened → m.ended + (n - 1) ≡ m.opened
one_less l m n more opened ended was = omega (arith, more, opened, ended, was)

as_many : (l m : Line) (n : ℕ) → m ≡ l → l.ended + n ≡ l.opened → m.ended + n ≡ m.opened
as_many l m n same was = subst (λ (z : Line). z.ended + n ≡ z.opened) (sym same) was

module _ (v w : Books) (c : Closing) (place : ℕ) (before after : Option (List FixtureCall)) (number : HasRowAt v c.number place) (r : IsRest v c) where
  pub rest_stopped : Ends App place v w before after → 0 < c.apps → IsRest w (record c { apps = c.apps - 1 })
  rest_stopped o more = rest_on v w c (record c { apps = c.apps - 1 }) place number r o.changes o.life refl refl (one_less o.changes.was.apps o.changes.is.apps c.apps more o.ends.opened o.ends.ended) (as_many o.changes.was.modules o.changes.is.modules c.instances o.others)

  pub rest_cleaned : Ends Instance place v w before after → 0 < c.instances → IsRest w (record c { instances = c.instances - 1 })
  rest_cleaned o more = rest_on v w c (record c { instances = c.instances - 1 }) place number r o.changes o.life refl refl (as_many o.changes.was.apps o.changes.is.apps c.apps o.others) (one_less o.changes.was.modules o.changes.is.modules c.instances more o.ends.opened o.ends.ended)

-- the place of the last one that is left
module _ (v w : Books) (c : Closing) (place : ℕ) (number : HasRowAt v c.number place) (r : IsRest v c) where
  pub last_app : (m : Changes place v w) → m.was.apps.opened - m.was.apps.ended - 1 ≡ c.apps - 1
  last_app m = let apps : m.was.apps.ended + c.apps ≡ m.was.apps.opened = subst (λ (z : Row). z.apps.ended + c.apps ≡ z.apps.opened) (was_at v w c.number place r.place r.row m number r.at) r.apps in omega (arith, apps)

  pub last_instance : (m : Changes place v w) → m.was.modules.opened - m.was.modules.ended - 1 ≡ c.instances - 1
  last_instance m = let instances : m.was.modules.ended + c.instances ≡ m.was.modules.opened = subst (λ (z : Row). z.modules.ended + c.instances ≡ z.modules.opened) (was_at v w c.number place r.place r.row m number r.at) r.instances in omega (arith, instances)

-- instances that may be cleaned may be afterwards
pub may_on : (p : Part) (v w : Books) (d place : ℕ) (before after : Option (List FixtureCall)) → HasRowAt v d place → (o : Ends p place v w before after) → MayClean v d → MayClean w d
may_on p v w d place before after number o may other r at =
    let same : r ≡ o.changes.is = row_same w d other place r o.changes.is at (now_at v w d place o.changes number) in
    ap may_clean_row same ∙ (ap (λ (z : Life). is_abandoned z || o.changes.is.retired) o.life ∙ (ap (λ (z : Bool). is_abandoned o.changes.was.life || z) o.retired ∙ may place o.changes.was (record { number = number_of v w d place o.changes number; there = o.changes.there })))

-- ---- the entries

module _ {F : Type 0} (calls : F → Option (List FixtureCall)) where
  pub cleans : (v : Desk F) (fixtures : F) (books : Books) (d place : ℕ) (can : CanEndOf Instance v d) → HasRowAt v.books d place → (o : Ends Instance place v.books books (calls v.fixtures) (calls fixtures)) → Steps calls v (record v { fixtures = fixtures; books = books }) (Cleaned d (o.changes.was.modules.opened - o.changes.was.modules.ended - 1))
  cleans v fixtures books d place can number o opening s told count known a =
      let i : ℕ = o.changes.was.modules.opened - o.changes.was.modules.ended - 1 in
      let w : Desk F = record v { fixtures = fixtures; books = books } in
      let n : Ended calls Instance opening w s told count d i o.changes.was = ends calls Instance v fixtures books d place can number o opening s told count known a in
      (n.may, subst (λ (z : List FixtureCall). Agrees calls opening w (after s (Cleaned d i)) (told ++ z) count) (sym (plain_calls s (Cleaned d i) n.may known.steady refl)) n.agrees)

  same_last : (b c d e : Bool) (l m : Life) (serial serial2 x y p q : ℕ) → b ≡ c → serial ≡ serial2 → l ≡ m → x ≡ y → p ≡ q → (b && (has_serial (serial - 1) l && (x == p))) ≡ (c && (has_serial (serial2 - 1) m && (y == q)))
  same_last b c d e l m serial serial2 x y p q one two three four five =
      ap (λ (z : Bool). z && (has_serial (serial - 1) l && (x == p))) one
      ∙ (ap (λ (z : ℕ). c && (has_serial (z - 1) l && (x == p))) two ∙ (ap (λ (z : Life). c && (has_serial (serial2 - 1) z && (x == p))) three ∙ (ap (λ (z : ℕ). c && (has_serial (serial2 - 1) m && (z == p))) four ∙ ap (λ (z : ℕ). c && (has_serial (serial2 - 1) m && (y == z))) five)))

  pub stops : (v : Desk F) (fixtures later : F) (books : Books) (d place : ℕ) (can : CanEndOf App v d) → HasRowAt v.books d place → (o : Ends App place v.books books (calls v.fixtures) (calls fixtures)) (t : Row) (last : Bool) → t ≡ o.changes.is → last ≡ (v.halted && (has_serial (v.serial - 1) t.life && (t.apps.ended == t.apps.opened)))
      → CallsGrow (calls fixtures) (cond last (Shut ∷ []) []) (calls later) → Steps calls v (record v { fixtures = later; books = books }) (Stopped d (o.changes.was.apps.opened - o.changes.was.apps.ended - 1))
  stops v fixtures later books d place can number o t last is flag grow opening s told count known a =
      let i : ℕ = o.changes.was.apps.opened - o.changes.was.apps.ended - 1 in
      let w : Desk F = record v { fixtures = fixtures; books = books } in
      let e : Entry = Stopped d i in
      let n : Ended calls App opening w s told count d i o.changes.was = ends calls App v fixtures books d place can number o opening s told count known a in
      let x : Drafted = n.draft in
      let same : (s.halted && (has_serial (s.serial - 1) x.life && (x.stopped + 1 == x.started))) ≡ last =
      same_last s.halted v.halted true true x.life t.life s.serial v.serial (x.stopped + 1) t.apps.ended x.started t.apps.opened a.halted a.serial (n.shows.life ∙ (sym o.life ∙ ap (λ (z : Row). z.life) (sym is))) (ap (λ (z : ℕ). z + 1) n.shows.stopped ∙ (sym o.ends.ended ∙ ap (λ (z : Row). z.apps.ended) (sym is)))
      (n.shows.started ∙ (sym o.ends.opened ∙ ap (λ (z : Row). z.apps.opened) (sym is))) ∙ sym flag in
      let shut : shutting (is_shut s) (is_shut (after s e)) ≡ cond last (Shut ∷ []) [] = stop_shuts s d i x known.steady.agrees n.may n.there ∙ ap (λ (z : Bool). cond z (Shut ∷ []) []) same in
      (n.may, subst (λ (z : List FixtureCall). Agrees calls opening (record v { fixtures = later; books = books }) (after s e) z count) (append_assoc told (key_calls s e) (cond last (Shut ∷ []) []) ∙ ap (λ (z : List FixtureCall). told ++ (key_calls s e ++ z)) (sym shut)) (with_calls calls opening w later (after s e) (told ++ key_calls s e) (cond last (Shut ∷ []) []) count grow n.agrees))
