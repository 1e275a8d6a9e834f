-- Where a stopping shuts the fixtures.
use Rattle.std.proofs.Common.{◌≡◌, ◌≢◌, ℕ, ◌+◌, ◌-◌, ◌==◌, ◌&&◌, Bool, true, false, cond, List, [], ◌∷◌, ◌++◌, length, refl, sym, ap, ◌∙◌, arith, Some, None, Option, slice_get, ne_eqb, option_map}
use Rattle.cd_outside.specs.declared.fixtures.FixtureCall.{FixtureCall}
use Rattle.cd_outside.specs.declared.fixtures.FixtureCall.TheVariants.{Shut}
use Rattle.cd_outside.specs.FixtureCall.{CallsGrow}
use Rattle.cd_legal.specs.declared.entry.Entry.TheVariants.{Stopped}
use Rattle.cd_legal.specs.declared.state.State.{State}
use Rattle.cd_legal.specs.declared.state.Drafted.{Drafted}
use Rattle.cd_legal.specs.State.{holds, holds_if_there, change_at, draft_of, of_draft, all_stopped}
use Rattle.cd_legal.specs.Legal.{allowed, after, may_stop}
use Rattle.cd_legal.specs.Serials.{has_serial, has_serial_in}
use Rattle.cd_legal.specs.Calls.{last_of, is_shut, shutting}
use Rattle.cd_legal.proofs.Serials.{Agree}
use Rattle.cd_legal.proofs.Facts.{stops, Stops}
use Rattle.cd_legal.proofs.Places.{get_change_same, get_change_other}
use Rattle.cd_desk.specs.declared.desk.Desk.{Desk}
use Rattle.cd_desk.specs.Desks.{Agrees}
use Rattle.cd_desk.proofs.Keeping.{calls_join}
use Rattle.cd_desk.proofs.Standing.{no_shutting, with_tickets}

pub last_at : (xs : List ℕ) → last_of xs ≡ draft_of (length xs) xs
last_at [] = refl
last_at (x ∷ []) = refl
last_at (x ∷ y ∷ xs) = last_at (y ∷ xs)

-- one app more is stopped
abbrev pub stop_one : Drafted → Drafted
stop_one x = record x { stopped = x.stopped + 1 }

-- of the draft that was published last it is seen
last_shut : (s : State) (ys : List Drafted) (d : ℕ) (x : Drafted) → last_of s.published ≡ Some d → slice_get ys d ≡ Some x → of_draft all_stopped ys (last_of s.published) ≡ all_stopped x
last_shut s ys d x last there = ap (of_draft all_stopped ys) last ∙ ap (holds_if_there all_stopped) there

-- of another one it is not
other_shut : (s : State) (d n : ℕ) (x : Drafted) → Agree s → n ≡ length s.published → slice_get s.drafts d ≡ Some x → has_serial n x.life ≡ false → (o : Option ℕ) → last_of s.published ≡ o → of_draft all_stopped (change_at stop_one d s.drafts) o ≡ of_draft all_stopped s.drafts o
other_shut s d n x a count there none None last = refl
other_shut s d n x a count there none (Some j) last =
    let serial : draft_of n s.published ≡ Some j = ap (λ (z : ℕ). draft_of z s.published) count ∙ (sym (last_at s.published) ∙ last) in
    let has = a.lives n j serial in
    let ne : j ≢ d = λ (same : j ≡ d). (let f : false ≡ true = sym none ∙ (sym (ap (holds (λ y. has_serial n y.life)) there) ∙ (ap (has_serial_in s n) (sym same) ∙ has)) in cc) in
    ap (holds_if_there all_stopped) (get_change_other stop_one s.drafts d j ne)

module _ (s : State) (d i : ℕ) (x : Drafted) (a : Agree s) (may : allowed s (Stopped d i) ≡ true) (there : slice_get s.drafts d ≡ Some x) where
  is_next : Stops i s.serial x
  is_next = stops i s.serial x (sym (ap (holds (may_stop i s.serial)) there) ∙ may)

  left_before : (x.stopped == x.started) ≡ false
  left_before = let next = is_next.next in ne_eqb x.stopped x.started (λ (e : x.stopped ≡ x.started). omega (arith, next, e))

  by_last : (c : Bool) → s.halted ≡ true → has_serial (s.serial - 1) x.life ≡ c → shutting (is_shut s) (is_shut (after s (Stopped d i))) ≡ cond (c && (x.stopped + 1 == x.started)) (Shut ∷ []) []
  by_last false halted has =
      let one : cond {A = ℕ} s.halted 1 0 ≡ 1 = ap (λ (b : Bool). cond {A = ℕ} b 1 0) halted in
      let all = a.count in
      let count : s.serial - 1 ≡ length s.published = omega (arith, one, all) in
      no_shutting (is_shut s) (is_shut (after s (Stopped d i))) (ap (λ (b : Bool). s.halted && b) (other_shut s d (s.serial - 1) x a count there has (last_of s.published) refl))
  by_last true halted has =
      let one : cond {A = ℕ} s.halted 1 0 ≡ 1 = ap (λ (b : Bool). cond {A = ℕ} b 1 0) halted in
      let all = a.count in
      let count : s.serial - 1 ≡ length s.published = omega (arith, one, all) in
      let last : last_of s.published ≡ Some d = last_at s.published ∙ (ap (λ (z : ℕ). draft_of z s.published) (sym count) ∙ a.published (s.serial - 1) d (ap (holds (λ y. has_serial (s.serial - 1) y.life)) there ∙ has)) in
      let before : is_shut s ≡ false = ap (λ (b : Bool). b && of_draft all_stopped s.drafts (last_of s.published)) halted ∙ (last_shut s s.drafts d x last there ∙ left_before) in
      let now : is_shut (after s (Stopped d i)) ≡ (x.stopped + 1 == x.started) =
      ap (λ (b : Bool). b && of_draft all_stopped (change_at stop_one d s.drafts) (last_of s.published)) halted ∙ last_shut s (change_at stop_one d s.drafts) d (stop_one x) last (get_change_same stop_one s.drafts d ∙ ap (option_map stop_one) there) in
      ap (λ (b : Bool). shutting b (is_shut (after s (Stopped d i)))) before ∙ ap (λ (b : Bool). shutting false b) now

  by_halt : (b : Bool) → s.halted ≡ b → shutting (is_shut s) (is_shut (after s (Stopped d i))) ≡ cond (b && (has_serial (s.serial - 1) x.life && (x.stopped + 1 == x.started))) (Shut ∷ []) []
  by_halt true halted = by_last (has_serial (s.serial - 1) x.life) halted refl
  by_halt false halted = no_shutting (is_shut s) (is_shut (after s (Stopped d i))) (ap (λ (b : Bool). b && of_draft all_stopped (change_at stop_one d s.drafts) (last_of s.published)) halted ∙ sym (ap (λ (b : Bool). b && of_draft all_stopped s.drafts (last_of s.published)) halted))

  pub stop_shuts : shutting (is_shut s) (is_shut (after s (Stopped d i))) ≡ cond (s.halted && (has_serial (s.serial - 1) x.life && (x.stopped + 1 == x.started))) (Shut ∷ []) []
  stop_shuts = by_halt s.halted refl

-- the same with further calls of the fixtures
pub with_calls : {F : Type 0} (calls : F → Option (List FixtureCall)) (opening w : Desk F) (fixtures : F) (s : State) (told more : List FixtureCall) (count : ℕ) → CallsGrow (calls w.fixtures) more (calls fixtures) → Agrees calls opening w s told count → Agrees calls opening (record w { fixtures = fixtures }) s (told ++ more) count
with_calls calls opening w fixtures s told more count grow a =
    with_tickets calls opening w s told count a fixtures w.tickets w.begun s.tickets (told ++ more) count a.begun a.tickets a.at_serial a.callers (calls_join (calls opening.fixtures) (calls w.fixtures) (calls fixtures) told more a.told_on grow)
