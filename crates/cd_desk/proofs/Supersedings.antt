-- What is left of a superseded serial.
use Rattle.std.proofs.Common.{◌≡◌, ℕ, ◌+◌, ◌-◌, ◌<◌, ◌||◌, Bool, true, false, List, refl, sym, ap, ◌∙◌, arith, Some, None, Option, slice_get, subst}
use Rattle.std.proofs.lemmas.Bool.{eqb-true}
use Rattle.cd_outside.specs.declared.fixtures.FixtureCall.{FixtureCall}
use Rattle.cd_legal.specs.declared.state.State.{State}
use Rattle.cd_legal.specs.declared.state.Drafted.{Drafted}
use Rattle.cd_legal.specs.State.{holds, has_number, draft_of, may_clean_instances, all_stopped, all_cleaned}
use Rattle.cd_legal.specs.Abandoned.{is_abandoned}
use Rattle.cd_legal.specs.Serials.{has_serial}
use Rattle.cd_legal.specs.Whole.{is_closed}
use Rattle.cd_legal.proofs.Serials.{Agree}
use Rattle.cd_legal.proofs.Histories.{first, second}
use Rattle.cd_desk.specs.declared.row.Row.{Row}
use Rattle.cd_desk.specs.declared.desk.Desk.{Desk}
use Rattle.cd_desk.specs.declared.closing.Closing.{Closing}
use Rattle.cd_desk.specs.Desks.{Agrees}
use Rattle.cd_desk.specs.Serials.{row_of}
use Rattle.cd_desk.specs.Closings.{IsClosing, MayClean, LeavesOf, Leaves, apps_left, instances_left, may_clean_row}
use Rattle.cd_desk.proofs.Lists.{some_is}
use Rattle.cd_desk.proofs.Numbers.{row_same}
use Rattle.cd_desk.proofs.Placing.{RowDraft, found, gone, serial_life, retired_row}

-- that of a row
abbrev pub closing_of : ℕ → ℕ → Row → Closing
closing_of d n r = record { number = d; serial = Some n; apps = r.apps.opened - r.apps.ended; instances = r.modules.opened - r.modules.ended }

-- that of no row
abbrev pub nothing_of : ℕ → Closing
nothing_of n = record { number = 0; serial = Some n; apps = 0; instances = 0 }

pub is_closing : {F : Type 0} (v : Desk F) (n place : ℕ) (r : Row) → n < v.serial → slice_get v.books.rows.items place ≡ Some r → has_serial n r.life ≡ true → IsClosing v (closing_of r.number n r)
is_closing v n place r low there has = record {
  superseded = λ m e. subst (λ (z : ℕ). z < v.serial) (some_is n m e) low;
  rest = λ more. record {
    place = place;
    row = r;
    at = record { number = refl; there = there };
    life = serial_life n r.life has;
    apps = (let over = r.apps.over in omega (arith, over));
    instances = (let over = r.modules.over in omega (arith, over));
  };
}

pub is_nothing : {F : Type 0} (v : Desk F) (n : ℕ) → n < v.serial → IsClosing v (nothing_of n)
is_nothing v n low = record { superseded = λ m e. subst (λ (z : ℕ). z < v.serial) (some_is n m e) low; rest = λ more. absurd (omega arith) }

module _ {F : Type 0} (calls : F → Option (List FixtureCall)) (opening b : Desk F) (s : State) (told : List FixtureCall) (count : ℕ) (agree : Agree s) (a : Agrees calls opening b s told count) where
  pub leaves_row : (n place : ℕ) (r : Row) → slice_get b.books.rows.items place ≡ Some r → has_serial n r.life ≡ true → Leaves s n (closing_of r.number n r)
  leaves_row n place r there has =
      let x : RowDraft s n r.number r = found calls opening b s told count agree a n place r there has in
      let started = x.shows.started in
      let stopped = x.shows.stopped in
      let made = x.shows.made in
      let cleaned = x.shows.cleaned in
      subst (λ (z : Option ℕ). LeavesOf s z (closing_of r.number n r)) (sym x.serial)
      (subst (λ (z : Option Drafted). (0 < (r.apps.opened - r.apps.ended) + (r.modules.opened - r.modules.ended) → r.number ≡ r.number) × ((r.apps.opened - r.apps.ended ≡ apps_left z) × (r.modules.opened - r.modules.ended ≡ instances_left z))) (sym x.there)
      (λ more. refl, (omega (arith, started, stopped), omega (arith, made, cleaned))))

  closed_none : (o : Option Drafted) → holds (is_closed s.retired) o ≡ true → (0 ≡ apps_left o) × (0 ≡ instances_left o)
  closed_none None e = (refl, refl)
  closed_none (Some x) e =
      let both = second (may_clean_instances s.retired x.life) _ e in
      let stopped = eqb-true x.stopped x.started (first (all_stopped x) (all_cleaned x) both) in
      let cleaned = eqb-true x.cleaned x.made (second (all_stopped x) (all_cleaned x) both) in
      (omega (arith, stopped), omega (arith, cleaned))

  pub leaves_none : (n : ℕ) → row_of n b.books.rows.items ≡ None → Leaves s n (nothing_of n)
  leaves_none n none = at (draft_of n s.published) refl
    where
      at : (o : Option ℕ) → draft_of n s.published ≡ o → LeavesOf s o (nothing_of n)
      at None is = (refl, refl)
      at (Some d) is = (λ more. absurd (omega arith), closed_none (slice_get s.drafts d) (gone calls opening b s told count agree a n d none is))

  -- the instances of a retired serial may be cleaned
  pub may_clean_retired : (n place : ℕ) (r : Row) → slice_get b.books.rows.items place ≡ Some r → has_serial n r.life ≡ true → has_number n s.retired ≡ true → MayClean b.books r.number
  may_clean_retired n place r there has over other t at =
      let same : t ≡ r = row_same b.books r.number other place t r at (record { number = refl; there = there }) in
      let its : r.retired ≡ true = sym (retired_row calls opening b s told count agree a n place r there has) ∙ over in
      ap may_clean_row same ∙ (ap (λ (z : Bool). is_abandoned r.life || z) its ∙ or_true (is_abandoned r.life))
    where
      or_true : (c : Bool) → (c || true) ≡ true
      or_true true = refl
      or_true false = refl
