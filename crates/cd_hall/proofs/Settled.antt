-- A serial that was superseded in a turn, whose apps were stopped, and which was settled then.
use Rattle.std.proofs.Common.{◌≡◌, ◌≤◌, ◌<◌, ℕ, ◌+◌, ◌==◌, ◌-◌, Bool, true, false, not, nat_le, cond, List, [], ◌∷◌, Option, Some, None, sym, ap, subst, ◌∙◌, ⊎_elim, arith}
use Rattle.std.specs.Prelude.{◌&&◌}
use Rattle.std.specs.List.{list_all}
use Rattle.std.proofs.lemmas.Bool.Decides.{nat_tests}
use Rattle.cd_legal.specs.declared.entry.Change.{Change}
use Rattle.cd_legal.specs.declared.entry.Entry.{Entry}
use Rattle.cd_legal.specs.declared.entry.Entry.TheVariants.{Publish, Halt}
use Rattle.cd_legal.specs.declared.entry.Signed.{Signed}
use Rattle.cd_legal.specs.declared.state.State.{State}
use Rattle.cd_legal.specs.Entry.{entries}
use Rattle.cd_legal.specs.Laws.{core_at}
use Rattle.cd_legal.specs.Legal.{after, state_at}
use Rattle.cd_legal.specs.Owing.{Owes}
use Rattle.cd_legal.specs.Runs.{stopped_all, stopped_of}
use Rattle.cd_legal.specs.Signing.{IsHistory}
use Rattle.cd_legal.specs.State.{has_number, open_at, apps_stopped}
use Rattle.cd_legal.specs.Whole.{nothing_left}
use Rattle.cd_gate.specs.declared.gate.Gate.{Gate}
use Rattle.cd_legal.specs.declared.limits.TheConstants.{MAX_UNRETIRED}
use Rattle.cd_gate.specs.declared.pass.Pass.{Pass}
use Rattle.cd_gate.specs.declared.pass.Turn.{Turn}
use Rattle.cd_gate.specs.declared.view.View.{View}
use Rattle.cd_gate.specs.Growing.{owes_after}
use Rattle.cd_gate.specs.Knowing.{Knows}
use Rattle.cd_gate.specs.Passes.{view, opening_of}
use Rattle.cd_gate.specs.Steps.{settled}
use Rattle.cd_gate.specs.Tables.{FoundInTurn}
use Rattle.cd_gate.specs.Words.{owed}
use Rattle.cd_legal.proofs.Serials.{retired-below}
use Rattle.cd_gate.proofs.Numbers.{tells}
use Rattle.cd_hall.specs.Calls.{StaysCalm}
use Rattle.cd_hall.specs.GoesOn.{GoesOn, Settles, IsHalt}
use Rattle.cd_hall.specs.Room.{unretired_before}
use Rattle.cd_hall.specs.Turns.{InTurn}
use Rattle.cd_hall.proofs.Bare.{serial_core, retired_core, stops_core, serial_alike, stops_alike}
use Rattle.cd_hall.proofs.Endings.{is_ending, rest_along, stops_end}
use Rattle.cd_hall.proofs.Goes.{goes_as}
use Rattle.cd_hall.proofs.InHand.{StopsOf, halt_low, halt_goes, publish_low, publish_goes}
use Rattle.cd_hall.proofs.Leftovers.{stopped_of_ends}
use Rattle.cd_hall.proofs.Noted.{agrees, unended_at, left_at, state_goes, published_left, halted_left, endings_duties, rises, stopped_then, still_owes, lent, settles_with, retires_later, due_later}

-- the serial that last used the balance of the coming one is retired, where the board found none that is not
pub oldest_retired : (s : State) (n m k : ℕ) → n ≡ m → None ≡ unretired_before s m → k + MAX_UNRETIRED ≡ n + 1 → has_number k s.retired ≡ true
oldest_retired s n m k same told last = ⊎_elim (λ q. ap (λ (j : ℕ). has_number j s.retired) (back n m k same last) ∙ q) (λ q. absurd (never q)) (tells (has_number (m + 1 - MAX_UNRETIRED) s.retired))
  where
    back : (n m k : ℕ) → n ≡ m → k + MAX_UNRETIRED ≡ n + 1 → k ≡ m + 1 - MAX_UNRETIRED
    back n m k same last = omega arith

    far : (n m k : ℕ) → n ≡ m → k + MAX_UNRETIRED ≡ n + 1 → MAX_UNRETIRED ≤ m + 1
    far n m k same last = omega arith

    low : (x y : ℕ) → x ≤ y → nat_le x y ≡ true
    low x y le = grind (arith, nat_tests)

    none_some : (j : ℕ) → ◌≡◌ {A = Option ℕ} None (Some j) → ⊥
    none_some j is = absurd (let h : ◌≡◌ {A = Option ℕ} None (Some j) = is in cc)

    never : has_number (m + 1 - MAX_UNRETIRED) s.retired ≡ false → ⊥
    never q = none_some (m + 1 - MAX_UNRETIRED) (told ∙ (λ i. cond (low MAX_UNRETIRED (m + 1) (far n m k same last) i && not (q i)) (Some (m + 1 - MAX_UNRETIRED)) None))

module _ {T : Type 0} where
  -- the board in hand stands for the same once the serial is settled
  pub settled_board : (stands : T → T → List Signed → Type 0) (g : Gate T) (t u : Turn T) (p q : Pass T) (n : ℕ) (due : Bool) → InTurn stands g t p → u ≡ t → view q ≡ settled (view p) n due → stands (opening_of g) u.value (core_at (view q).seen)
  settled_board stands g t u p q n due h same is =
      subst (λ (z : View T). stands (opening_of g) u.value (core_at z.seen)) (sym is) (subst (λ (z : Turn T). stands (opening_of g) z.value (core_at (view p).seen)) (sym same) h.board)

  pub settled_history : (w x : View T) (n : ℕ) (due : Bool) → Knows w → x ≡ settled w n due → IsHistory x.seen
  settled_history w x n due knows is = subst (λ (z : View T). IsHistory z.seen) (sym is) knows.history

  -- ---- by a Publish

  module _ (v a b : View T) (d n : ℕ) (c : Change) (knows : Knows v) (left : nothing_left (state_at v.seen) ≡ true) (current : n ≡ (state_at v.seen).serial) (start : GoesOn v a (Publish d (n + 1) n c ∷ [])) (stops : StopsOf a n b) where
    abbrev ps : State
    ps = state_at (core_at v.seen)

    p_here : n ≡ ps.serial
    p_here = current ∙ sym (serial_core v.seen)

    pub p_goes : GoesOn v b (Publish d (n + 1) n c ∷ stopped_of ps n)
    p_goes = publish_goes v a b d n c knows left current start stops

    pub p_left : nothing_left (state_at b.seen) ≡ true
    p_left = published_left v b d (n + 1) c knows (subst (λ (m : ℕ). GoesOn v b (Publish d (n + 1) m c ∷ stopped_of ps m)) p_here p_goes) (ap (λ (m : ℕ). m + 1) p_here) left

    pub p_stopped : apps_stopped (state_at b.seen) n ≡ true
    p_stopped = stopped_then b n (rises a b (stopped_all stops.0.number stops.0.apps) n stops.2 (publish_low v a d n c start)) p_left

    pub p_duties : b.duties ≡ v.duties
    p_duties = p_goes.duties ∙ endings_duties v.duties (stopped_of ps n) (stopped_of_ends ps (agrees v knows) (unended_at v knows) (left_at v left) n)

    module _ (x : View T) (due : Bool) (log : List Signed) (f : FoundInTurn b log) (ticket : a.ticket ≡ Some n) (told : due ≡ (open_at n (state_at log).tickets == 0)) (is : x ≡ settled b n due) where
      p_none : due ≡ false
      p_none = lent b n due log f (still_owes a b (stopped_all stops.0.number stops.0.apps) (stops_end stops.0.number stops.0.apps) stops.2 ∙ ticket) told

      pub p_settles : Settles v x (Publish d (n + 1) n c ∷ stopped_of ps n) []
      p_settles = settles_with v b x (Publish d (n + 1) n c ∷ stopped_of ps n) n due [] p_goes p_duties is (sym (ap (λ (z : Bool). cond z (n ∷ []) []) p_none))

      pub p_calm : v.unsettled ≡ None → StaysCalm v x
      p_calm quiet = record {
        duties = p_settles.more;
        unsettled = ap (λ (z : View T). z.unsettled) is ∙ sym quiet;
        left = ap (λ (z : View T). nothing_left (state_at z.seen)) is ∙ p_left;
      }

  -- ---- by the Halt

  module _ (v a b : View T) (n : ℕ) (knows : Knows v) (left : nothing_left (state_at v.seen) ≡ true) (current : n ≡ (state_at v.seen).serial) (start : GoesOn v a (Halt (n + 1) ∷ [])) (stops : StopsOf a n b) where
    abbrev hs : State
    hs = state_at (core_at v.seen)

    h_here : n ≡ hs.serial
    h_here = current ∙ sym (serial_core v.seen)

    h_goes : GoesOn v b (Halt (n + 1) ∷ stopped_of hs n)
    h_goes = halt_goes v a b n knows left current start stops

    pub h_left : nothing_left (state_at b.seen) ≡ true
    h_left = halted_left v b (n + 1) knows (subst (λ (m : ℕ). GoesOn v b (Halt (n + 1) ∷ stopped_of hs m)) h_here h_goes) (ap (λ (m : ℕ). m + 1) h_here) left

    h_low : n < (state_at b.seen).serial
    h_low = rises a b (stopped_all stops.0.number stops.0.apps) n stops.2 (halt_low v a n start)

    pub h_stopped : apps_stopped (state_at b.seen) n ≡ true
    h_stopped = stopped_then b n h_low h_left

    h_ends : list_all is_ending (stopped_of hs n) ≡ true
    h_ends = stopped_of_ends hs (agrees v knows) (unended_at v knows) (left_at v left) n

    -- the current serial was not retired, nor was it since
    h_fresh : has_number n (state_at v.seen).retired ≡ false
    h_fresh = ⊎_elim (λ q. absurd (not_low n (state_at v.seen).serial current (retired-below (entries v.seen) n knows.history.is_legal q))) (λ q. q) (tells (has_number n (state_at v.seen).retired))
      where
        not_low : (x y : ℕ) → x ≡ y → x < y → ⊥
        not_low x y e low = absurd (omega arith)

    h_unretired : has_number n (state_at b.seen).retired ≡ false
    h_unretired =
        sym (retired_core b.seen n)
        ∙ (ap (λ (z : State). has_number n z.retired) (state_goes v b (Halt (n + 1) ∷ stopped_of hs n) h_goes)
        ∙ (ap (has_number n) (rest_along (after hs (Halt (n + 1))) (stopped_of hs n) h_ends).retired ∙ (retired_core v.seen n ∙ h_fresh)))

    h_duties : b.duties ≡ v.duties
    h_duties = h_goes.duties ∙ endings_duties v.duties (stopped_of hs n) h_ends

    -- as the state with its requests has it
    h_whole : GoesOn v b (Halt ((state_at v.seen).serial + 1) ∷ stopped_of (state_at v.seen) (state_at v.seen).serial)
    h_whole = subst (λ (m : ℕ). GoesOn v b (Halt (m + 1) ∷ stopped_of (state_at v.seen) m)) current (goes_as v b _ _ (ap (λ (l : List Entry). Halt (n + 1) ∷ l) (stops_core v.seen n)) h_goes)

    module _ (x : View T) (due : Bool) (log : List Signed) (f : FoundInTurn b log) (told : due ≡ (open_at n (state_at log).tickets == 0)) (is : x ≡ settled b n due) where
      h_ticket : b.ticket ≡ v.ticket
      h_ticket =
          still_owes a b (stopped_all stops.0.number stops.0.apps) (stops_end stops.0.number stops.0.apps) stops.2
          ∙ ap (λ (o : Owes). o.ticket) (start.since.owes ∙ ap (λ (l : List Entry). owes_after (owed v) l) start.are)

      h_lent : (ds : List ℕ) → ds ≡ cond due (n ∷ []) [] → v.ticket ≡ Some (state_at v.seen).serial → ds ≡ []
      h_lent ds are has = are ∙ ap (λ (z : Bool). cond z (n ∷ []) []) (lent b n due log f (h_ticket ∙ (has ∙ ap (λ (m : ℕ). Some m) (sym current))) told)

      pub h_halt : (ds : List ℕ) → ds ≡ cond due (n ∷ []) [] → (state_at v.seen).halted ≡ false → IsHalt v x ds
      h_halt ds are runs = record {
        settles = settles_with v b x (Halt ((state_at v.seen).serial + 1) ∷ stopped_of (state_at v.seen) (state_at v.seen).serial) n due ds h_whole h_duties is are;
        running = runs;
        due = due_later b x n (state_at v.seen).serial due log ds f (ap (λ (z : View T). z.seen) is) told are current (λ came. retires_later b n log f h_low h_unretired h_stopped (sym told ∙ came));
        lent = h_lent ds are;
      }

      pub h_quiet : x.unsettled ≡ None
      h_quiet = ap (λ (z : View T). z.unsettled) is

      pub h_left_then : nothing_left (state_at x.seen) ≡ true
      h_left_then = ap (λ (z : View T). nothing_left (state_at z.seen)) is ∙ h_left

-- what a halt makes, by the state that it found
pub halt_found : (found seen : List Signed) → core_at found ≡ core_at seen → Halt ((state_at seen).serial + 1) ∷ stopped_of (state_at seen) (state_at seen).serial ≡ Halt ((state_at found).serial + 1) ∷ stopped_of (state_at found) (state_at found).serial
halt_found found seen same =
    ap (λ (m : ℕ). Halt (m + 1) ∷ stopped_of (state_at seen) m) (sym (serial_alike found seen same))
    ∙ ap (λ (l : List Entry). Halt ((state_at found).serial + 1) ∷ l) (sym (stops_alike found seen same (state_at found).serial))
