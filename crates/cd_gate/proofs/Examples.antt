-- Examples of the definitions: of each one where it is true and one where it is false.
use Rattle.std.specs.Prelude.{◌≡◌, ℕ, ◌+◌, ◌*◌, ◌≤◌, ◌==◌, Bool, true, false, cond, slice_get, List, [], ◌∷◌, Option, Some, None}
use Rattle.std.proofs.Common.{refl, sym, ap, arith}
use Rattle.std.proofs.lemmas.Bool.{eqb-true}
use mathlib.Core.Option.{some-injective}
use Rattle.cd_legal.specs.declared.entry.Change.TheVariants.{First}
use Rattle.cd_legal.specs.declared.entry.Entry.TheVariants.{Publish, Begin, Finish, Retire, Halt}
use Rattle.cd_legal.specs.declared.limits.TheConstants.{MAX_BEGINS, MAX_UNRETIRED}
use Rattle.cd_legal.specs.declared.state.State.{State}
use Rattle.cd_legal.specs.Entry.{signed}
use Rattle.cd_legal.specs.State.{opening_state}
use Rattle.cd_gate.specs.declared.pass.Pass.{Pass}
use Rattle.cd_gate.specs.declared.table.TheConstants.{SERIAL_STEP, FULL_BALANCE}
use Rattle.cd_gate.specs.declared.view.View.{View}
use Rattle.cd_gate.specs.Counts.{is_noted, noted_in, begins_in, place_of, is_ready, Counts, Ordered, Crowd}
use Rattle.cd_gate.specs.Duties.{is_settled, is_due, more_due, duties_after}
use Rattle.cd_gate.specs.Knowing.{Knows, is_calm}
use Rattle.cd_gate.specs.Passes.{view, HasPlace}
use Rattle.cd_gate.specs.Steps.{may_note, longer, first_view, begun, finished, finish, settle, supersede}
use Rattle.cd_gate.specs.Tables.{Found, FoundInTurn, Begins, Ends, UnsettledThen}
use Rattle.cd_gate.specs.Words.{Slot, Moment, first_balances}
use Rattle.cd_gate.proofs.Starting.{first_counts, first_order}

-- serial 2 is current; pass 2 has a request at serial 0, and pass 3 at serial 1
abbrev later : State
later = record opening_state { serial = 2; tickets = record { caller = 2; serial = 0 } ∷ record { caller = 3; serial = 1 } ∷ [] }

abbrev halted : State
halted = record later { halted = true }

abbrev none_runs : State
none_runs = record later { tickets = [] }

-- a serial is due once it is settled and no request runs under it, until it is retired
abbrev Due : Type 0
Due =
    (is_settled later None 1 ≡ true) × (is_settled later (Some 1) 1 ≡ false) × (is_settled later None 2 ≡ false)
    × (is_due none_runs None 1 ≡ true) × (is_due none_runs (Some 1) 1 ≡ false) × (is_due later None 1 ≡ false) × (is_due (record none_runs { retired = 1 ∷ [] }) None 1 ≡ false)
    × (more_due true 1 (0 ∷ []) ≡ 1 ∷ 0 ∷ []) × (more_due false 1 (0 ∷ []) ≡ 0 ∷ [])
    × (duties_after (0 ∷ 1 ∷ []) (Retire 0) ≡ 1 ∷ []) × (duties_after (0 ∷ []) (Halt 1) ≡ 0 ∷ [])

due : Due
due = (refl, refl, refl, refl, refl, refl, refl, refl, refl, refl, refl)

-- two serials that are as far apart as there are balances have one place, and the serial of the halt has its own
abbrev Placing : Type 0
Placing =
    (place_of later 2 ≡ 3) × (place_of later (2 + MAX_UNRETIRED) ≡ 3) × (place_of halted 2 ≡ 0) × (place_of halted 1 ≡ 2)
    × (is_ready later 3 ≡ true) × (is_ready later 2 ≡ false) × (is_ready halted 3 ≡ false)

placing : Placing
placing = (refl, refl, refl, refl, refl, refl, refl)

-- of these entries one is noted, and two requests begin
abbrev Counting : Type 0
Counting =
    (is_noted (Retire 0) ≡ true) × (is_noted (Begin 1 0) ≡ false) × (noted_in (Begin 1 0 ∷ Retire 0 ∷ Halt 1 ∷ []) ≡ 1)
    × (begins_in (signed 1 (Begin 1 0) ∷ signed 2 (Begin 2 0) ∷ signed 1 (Finish 1) ∷ []) 0 ≡ 2) × (begins_in (signed 1 (Begin 1 0) ∷ []) 1 ≡ 0)

counting : Counting
counting = (refl, refl, refl, refl, refl)

-- a pass notes neither the end of its request nor a Publish, and a Retire only where it is a duty
abbrev publisher : View State
publisher = record (first_view opening_state) { turn = true; ticket = Some 1; duties = 0 ∷ [] }

abbrev Notes : Type 0
Notes =
    (may_note publisher (Retire 0) ≡ true) × (may_note publisher (Retire 1) ≡ false) × (may_note publisher (Finish 0) ≡ false)
    × (may_note publisher (Publish 0 1 0 First) ≡ false) × (is_calm (Retire 0) ≡ false)

notes : Notes
notes = (refl, refl, refl, refl, refl)

-- two requests began under serial 1, and run: a publish leaves its balance full, and the settle leaves 2 in it; the first end finds 2
-- and gives no duty, the second finds 1 and gives it
abbrev client : View State
client = record (first_view opening_state) { number = 1; ticket = Some 1 }

abbrev published : Moment State
published =
    supersede (record { packed = SERIAL_STEP + 2; turn = 1; counted = 0; balances = FULL_BALANCE ∷ FULL_BALANCE ∷ FULL_BALANCE ∷ FULL_BALANCE ∷ []; board = Slot.Held None; views = publisher ∷ client ∷ [] })
    0 publisher [] (Publish 0 2 1 First) 1 2

abbrev settled : Moment State
settled = settle published 0 publisher 1 2

abbrev once_ended : Moment State
once_ended = finish settled 1 client [] 1 2

abbrev twice_ended : Moment State
twice_ended = finish once_ended 1 client [] 1 2

abbrev duties_of : Option (View State) → List ℕ
duties_of None = []
duties_of (Some v) = v.duties

abbrev Ending : Type 0
Ending =
    (published.packed ≡ 2 * SERIAL_STEP) × (published.balances ≡ FULL_BALANCE ∷ FULL_BALANCE ∷ FULL_BALANCE ∷ FULL_BALANCE ∷ [])
    × (settled.balances ≡ FULL_BALANCE ∷ FULL_BALANCE ∷ 2 ∷ FULL_BALANCE ∷ [])
    × (once_ended.balances ≡ FULL_BALANCE ∷ FULL_BALANCE ∷ 1 ∷ FULL_BALANCE ∷ []) × (twice_ended.balances ≡ FULL_BALANCE ∷ FULL_BALANCE ∷ 0 ∷ FULL_BALANCE ∷ [])
    × (duties_of (slice_get settled.views 0) ≡ 0 ∷ []) × (duties_of (slice_get once_ended.views 1) ≡ []) × (duties_of (slice_get twice_ended.views 1) ≡ 1 ∷ [])

ending : Ending
ending = (refl, refl, refl, refl, refl, refl, refl, refl)

-- ---- relations

-- at the beginning the words count nothing; a word of the serial with a request that did not begin counts wrongly
counts_nothing : Counts 0 first_balances opening_state None 0 (begins_in [])
counts_nothing = first_counts

counts_wrongly : Counts 1 first_balances opening_state None 0 (begins_in []) → ⊥
counts_wrongly c = absurd (let h : 1 ≡ 0 = c.packed_is in omega (arith, h))

-- a serial whose balance was not made ready is not the current one
in_order : Ordered opening_state None 0
in_order = first_order

out_of_order : Ordered later None 1 → ⊥
out_of_order o = absurd (let h : 2 ≤ 1 = o.low in omega (arith, h))

-- one pass may begin one request more than the limit, where it found room before the last one began; and not two
module _ (b : State) where
  crowd : Crowd (MAX_BEGINS + 1) (first_view b ∷ [])
  crowd = record {
    few = λ u e. let same : 1 ≡ u.made = ap (λ (z : View State). z.made) (some-injective _ _ e) in omega (arith, same);
    room = λ u e. let same : 1 ≡ u.made = ap (λ (z : View State). z.made) (some-injective _ _ e) in omega (arith, same);
  }

  crowded : Crowd (MAX_BEGINS + 2) (first_view b ∷ []) → ⊥
  crowded c = absurd (let h = c.room (first_view b) refl in omega (arith, h))

  -- a new pass has found room, and begins its request at serial 0, not at 1
  abbrev checked : View State
  checked = record (first_view b) { checked = true }

  found : Found checked []
  found = record { history = record { is_legal = refl; is_signed = refl }; seen = ([], refl); own = refl; own_seen = refl; owes = refl; in_turn = λ has. refl }

  found_in_turn : FoundInTurn checked []
  found_in_turn = record { found = found; core_is = refl }

  -- a halt that the pass has not seen was not made in its turn
  not_in_turn : FoundInTurn checked (signed 1 (Halt 1) ∷ []) → ⊥
  not_in_turn f = absurd (let h : signed 1 (Halt 1) ∷ [] ≡ [] = f.core_is in cc)

  -- nor is it the history of a pass that has signed it
  not_found : Found checked (signed 0 (Halt 1) ∷ []) → ⊥
  not_found f = absurd (let h : signed 0 (Halt 1) ∷ [] ≡ [] = f.own in cc)

  begins : Begins checked (begun checked [] 0) 0 []
  begins = record { found = found; is = refl; current = refl; history = record { is_legal = refl; is_signed = refl } }

  not_current : Begins checked (begun checked [] 1) 1 [] → ⊥
  not_current is = absurd (let h : 1 ≡ 0 = is.current in omega (arith, h))

  -- the end of a request at the current serial never makes it due
  ends : Ends (begun checked [] 0) (finished (begun checked [] 0) (signed 0 (Begin 0 0) ∷ []) 0 false) 0 false (signed 0 (Begin 0 0) ∷ [])
  ends = record {
    found = record { history = record { is_legal = refl; is_signed = refl }; seen = ([], refl); own = refl; own_seen = refl; owes = refl; in_turn = λ has. refl };
    is = refl;
    running = refl;
    history = record { is_legal = refl; is_signed = refl };
    unsettled = None;
    unsettled_then = record {
      last = λ n is. absurd (let h : ◌≡◌ {A = Option ℕ} None (Some n) = is in cc);
      lent = λ n is on. absurd (let h : ◌≡◌ {A = Option ℕ} None (Some n) = is in cc);
    };
    due_is = refl;
    may = λ is. absurd (let h : false ≡ true = is in cc);
  }

  not_due : (w : View State) → Ends (begun checked [] 0) w 0 true (signed 0 (Begin 0 0) ∷ []) → ⊥
  not_due w is = absurd (let h : true ≡ false = is.due_is in cc)

  knows : Knows (first_view b)
  knows = record { history = record { is_legal = refl; is_signed = refl }; own = refl; owes = refl; duties = λ n is. absurd (let h : false ≡ true = is in cc) }

  not_known : Knows (record (first_view b) { duties = 0 ∷ [] }) → ⊥
  not_known k = absurd (let h : false ≡ true = k.duties 0 refl in cc)

-- while pass 3 has a request at serial 1, that may be unsettled where pass 2 ends its own, and not where pass 3 does
may_be_unsettled : UnsettledThen later 2 (Some 1)
may_be_unsettled = record {
  last = λ n is. let same : 1 ≡ n = some_is 1 n is in omega (arith, same);
  lent = λ n is on. (3, (λ e. absurd (omega (arith, e))), is);
}
  where
    some_is : (x y : ℕ) → ◌≡◌ {A = Option ℕ} (Some x) (Some y) → x ≡ y
    some_is x y e = cc

another_runs : UnsettledThen later 3 (Some 1) → ⊥
another_runs u = let t = u.lent 1 refl refl in other (2 == t.0) (3 == t.0) (λ is. t.1 (sym (eqb-true 3 t.0 is))) t.2
  where
    other : (a b : Bool) → (b ≡ true → ⊥) → ◌≡◌ {A = Option ℕ} (cond a (Some 0) (cond b (Some 1) None)) (Some 1) → ⊥
    other true b apart is = absurd (let h : ◌≡◌ {A = Option ℕ} (Some 0) (Some 1) = is in cc)
    other false true apart is = apart refl
    other false false apart is = absurd (let h : ◌≡◌ {A = Option ℕ} None (Some 1) = is in cc)

-- ---- as of passes

-- of two places pass 1 has one, and of one place it has none
module _ {T : Type 0} (p : Pass T) where
  has_place : (view p).number ≡ 1 → HasPlace 2 p
  has_place is = omega (arith, is)

  has_none : (view p).number ≡ 1 → HasPlace 1 p → ⊥
  has_none is has = absurd (omega (arith, is, has))

-- the longer of two beginnings, in either order
abbrev Longer : Type 0
Longer =
    (longer (signed 0 (Halt 1) ∷ []) [] ≡ signed 0 (Halt 1) ∷ []) × (longer [] (signed 0 (Halt 1) ∷ []) ≡ signed 0 (Halt 1) ∷ [])

longest : Longer
longest = (refl, refl)
