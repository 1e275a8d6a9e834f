-- What the board in hand says of the history that a pass has seen, and what is made of it in a turn that supersedes or retires a serial.
use Rattle.std.proofs.Common.{◌≡◌, ◌≢◌, ◌≤◌, ◌<◌, ℕ, ◌+◌, ◌^◌, ◌==◌, Bool, true, false, not, nat_lt, cond, List, [], ◌∷◌, ◌++◌, length, slice_get, Option, Some, None, Result, refl, sym, ap, subst, ◌∙◌, arith, eq-eqb, ne_eqb}
use Rattle.std.specs.Prelude.{is_some, is_none}
use Rattle.std.proofs.lemmas.Bool.Decides.{nat_tests}
use Rattle.cd_outside.specs.declared.fixtures.FixtureCall.{FixtureCall}
use Rattle.cd_outside.specs.declared.key.Key.{Key}
use Rattle.cd_tree.specs.declared.tree.Tree.{Tree}
use Rattle.cd_wire.specs.declared.request.Request.{Request}
use Rattle.cd_module.specs.declared.fault.LoadFault.{LoadFault}
use Rattle.cd_legal.specs.declared.plan.Plan.{Plan}
use Rattle.cd_legal.specs.declared.entry.Change.{Change}
use Rattle.cd_legal.specs.declared.entry.Entry.{Entry}
use Rattle.cd_legal.specs.declared.entry.Entry.TheVariants.{Publish, Retire, Halt}
use Rattle.cd_legal.specs.declared.entry.Signed.{Signed}
use Rattle.cd_legal.specs.declared.limits.TheConstants.{LAST_SERIAL}
use Rattle.cd_legal.specs.declared.state.State.{State}
use Rattle.cd_legal.specs.declared.state.Drafted.{Drafted}
use Rattle.cd_legal.specs.Entry.{entries}
use Rattle.cd_legal.specs.Laws.{core_at}
use Rattle.cd_legal.specs.State.{Conf, conf_of, has_number, holds, is_live, draft_of, apps_stopped}
use Rattle.cd_legal.specs.Legal.{allowed, after, state_at, is_open, is_complete}
use Rattle.cd_legal.specs.Runs.{stopped_all, cleaned_all, stopped_of, cleaned_of, block_of}
use Rattle.cd_legal.specs.Serials.{is_halted}
use Rattle.cd_legal.specs.Whole.{nothing_left}
use Rattle.cd_legal.proofs.Confs.{conf-halted}
use Rattle.cd_legal.proofs.Facts.{Retires, can, not-false}
use Rattle.cd_legal.proofs.Histories.{both, first}
use Rattle.cd_gate.specs.declared.gate.Gate.{Gate}
use Rattle.cd_gate.specs.declared.pass.Pass.{Pass}
use Rattle.cd_gate.specs.declared.pass.Turn.{Turn}
use Rattle.cd_gate.specs.declared.view.View.{View}
use Rattle.cd_gate.specs.Knowing.{Knows}
use Rattle.cd_gate.specs.Passes.{view, opening_of}
use Rattle.cd_gate.proofs.Numbers.{has_append, has_this, right}
use Rattle.cd_gate.proofs.Retiring.{retirable-low}
use Rattle.cd_desk.specs.declared.closing.Closing.{Closing}
use Rattle.cd_desk.specs.Closings.{Leaves, CanRetire}
use Rattle.cd_life.specs.declared.board.Board.{Board}
use Rattle.cd_life.specs.Changes.{conf_here}
use Rattle.cd_life.specs.Fits.{Suits}
use Rattle.cd_life.specs.Standing.{Stood, Adds}
use Rattle.cd_life.proofs.Laws.{conf_is, current_unretired}
use Rattle.cd_hall.specs.Drafts.{Held, IsLiveAs, IsWholeDraft}
use Rattle.cd_hall.specs.GoesOn.{GoesOn}
use Rattle.cd_hall.specs.Publishing.{Refusal, refusal}
use Rattle.cd_hall.specs.Room.{oldest_before, is_full, unretired_before}
use Rattle.cd_hall.specs.Turns.{InTurn}
use Rattle.cd_hall.proofs.Bare.{serial_core, halted_core, retired_core, conf_core, stopped_core, retires_core}
use Rattle.cd_hall.proofs.Goes.{goes_both, goes_as}
use Rattle.cd_hall.proofs.Leftovers.{stops_are, cleans_are, publish_draft, publish_stays}
use Rattle.cd_hall.proofs.Noted.{agrees, unended_at, left_at, legal_goes, state_goes}
use Rattle.cd_hall.proofs.Retirable.{can_retire}

module _ {A F B : Type 0} {k : _} (calls : F → Option (List FixtureCall)) (faults : F → ℕ) (plan : Tree → Result Plan LoadFault) (makes : Tree → Request → Option Tree) (g : Gate (Board A F B k)) (t : Turn (Board A F B k)) (p : Pass (Board A F B k)) (h : InTurn (Stood calls faults plan makes) g t p) where
  abbrev core : List Signed
  core = core_at (view p).seen

  pub serial_here : (n : ℕ) → n ≡ (state_at (view p).seen).serial → n ≡ t.value.desk.serial
  serial_here n is = is ∙ (sym (serial_core (view p).seen) ∙ h.board.desk.agrees.serial)

  -- what the board says of its serial
  pub serial_told : (n : ℕ) → n ≡ (state_at core).serial → n ≡ (state_at (view p).seen).serial
  serial_told n is = is ∙ serial_core (view p).seen

  pub halted_told : (b : Bool) → b ≡ (state_at core).halted → b ≡ (state_at (view p).seen).halted
  halted_told b is = is ∙ halted_core (view p).seen

  pub running_here : (state_at (view p).seen).halted ≡ false → t.value.desk.halted ≡ false
  running_here is = sym h.board.desk.agrees.halted ∙ (halted_core (view p).seen ∙ is)

  -- another serial fits
  pub bound_here : (n : ℕ) → n ≡ (state_at (view p).seen).serial → n ≤ LAST_SERIAL → t.value.desk.serial + 1 < 2 ^ 32
  bound_here n is room = let same = serial_here n is in omega (arith, room, same)

  -- the halt has the next serial
  pub halts_here : (n : ℕ) → n ≡ (state_at (view p).seen).serial → (b : Board A F B k) → Adds calls faults plan makes t.value b (Halt (t.value.desk.serial + 1)) → Adds calls faults plan makes t.value b (Halt (n + 1))
  halts_here n current b adds = subst (λ (m : ℕ). Adds calls faults plan makes t.value b (Halt (m + 1))) (sym (serial_here n current)) adds

  -- the current configuration is the board's
  pub suits_here : (n : ℕ) (way : Change) (tree : Tree) → n ≡ (state_at (view p).seen).serial → Suits makes (conf_of (state_at (view p).seen) n) way tree → Suits makes (conf_here t.value n) way tree
  suits_here n way tree current suits =
      let here : n ≡ (state_at core).serial = current ∙ sym (serial_core (view p).seen) in
      let same : conf_here t.value n ≡ conf_of (state_at core) n =
      conf_is calls faults plan makes (opening_of g) t.value core h.board n (omega (arith, here)) (ap (λ (z : ℕ). has_number z (state_at core).retired) here ∙ current_unretired calls faults plan makes (opening_of g) t.value core h.board) in
      subst (λ (z : Conf). Suits makes z way tree) (sym (same ∙ conf_core (view p).seen n)) suits

  -- a serial that the pass is to retire can be
  pub retires_here : (n : ℕ) → has_number n (view p).duties ≡ true → CanRetire t.value.desk n
  retires_here n due = can_retire calls (opening_of g).desk t.value.desk core h.board.desk n (retires_core (view p).seen n (h.knows.duties n due))

pub below_last : (n : ℕ) → n < LAST_SERIAL → n + 1 < 2 ^ 32
below_last n room = omega (arith, room)

not_after : (makes : Tree → Request → Option Tree) (conf : Conf) (halted : Bool) (way : Change) (tree : Tree) → is_halted conf ≡ halted → Suits makes conf way tree → halted ≡ false
not_after makes Conf.Opening halted way tree is suits = sym is
not_after makes Conf.Halted halted way tree is suits = absurd suits
not_after makes (Conf.Of before) halted way tree is suits = sym is

-- a draft of which all is there may be published
unfailed_none : (o : Option Key) → is_some o ≡ false → is_none o ≡ true
unfailed_none None is = refl
unfailed_none (Some key) is = absurd (let h : true ≡ false = is in cc)

pub may_be_published : (s : State) (h : Held) (n : ℕ) (c : Change) → IsLiveAs s h → IsWholeDraft h → s.halted ≡ false → n ≡ s.serial → allowed s (Publish h.number (n + 1) n c) ≡ true
may_be_published s h n c live whole on current =
    let x : Drafted = live.drafted in
    let open_now : is_open x ≡ true = both (is_live x.life) (is_none x.failed) (ap is_live live.live) (unfailed_none x.failed (live.failed ∙ whole.unfailed)) in
    let made = eq-eqb x.made (length x.plan.modules) (live.made ∙ (whole.made ∙ ap (λ (q : Plan). length q.modules) (sym live.plan))) in
    let started = eq-eqb x.started (length x.plan.apps) (live.started ∙ (whole.started ∙ ap (λ (q : Plan). length q.apps) (sym live.plan))) in
    both (not s.halted) _ (not-false s.halted on)
    (both (holds is_complete (slice_get s.drafts h.number)) _
    (ap (holds is_complete) live.there ∙ both (is_open x) _ open_now (both (x.made == length x.plan.modules) _ made started))
    (both (n == s.serial) _ (eq-eqb n s.serial current) (eq-eqb (n + 1) (n + 1) refl)))

-- what is retired here
retired_here : (n : ℕ) (ns : List ℕ) → has_number n (ns ++ n ∷ []) ≡ true
retired_here n ns = has_append n ns (n ∷ []) ∙ right (has_number n ns) (has_number n (n ∷ [])) (has_this n [])

module _ {T : Type 0} where
  -- after the halt nothing suits
  pub still_runs : (makes : Tree → Request → Option Tree) (v : View T) (n : ℕ) (way : Change) (tree : Tree) → Knows v → n ≡ (state_at v.seen).serial → Suits makes (conf_of (state_at v.seen) n) way tree → (state_at v.seen).halted ≡ false
  still_runs makes v n way tree knows current suits =
      not_after makes (conf_of (state_at v.seen) n) (state_at v.seen).halted way tree (ap (λ (z : ℕ). is_halted (conf_of (state_at v.seen) z)) current ∙ conf-halted (entries v.seen) knows.history.is_legal) suits

  -- what is left of the serial n
  abbrev pub StopsOf : View T → ℕ → View T → Type 0
  StopsOf a n w = (c : Closing) × Leaves (state_at (core_at a.seen)) n c × GoesOn a w (stopped_all c.number c.apps)

  abbrev pub CleansOf : View T → ℕ → View T → Type 0
  CleansOf a n w = (c : Closing) × Leaves (state_at (core_at a.seen)) n c × GoesOn a w (cleaned_all c.number c.instances)

  serial_then : (v a : View T) (e : Entry) → GoesOn v a (e ∷ []) → (state_at a.seen).serial ≡ (after (state_at (core_at v.seen)) e).serial
  serial_then v a e g = sym (serial_core a.seen) ∙ ap (λ (z : State). z.serial) (state_goes v a (e ∷ []) g)

  -- ---- the halt

  pub halt_low : (v a : View T) (n : ℕ) → GoesOn v a (Halt (n + 1) ∷ []) → n < (state_at a.seen).serial
  halt_low v a n g = let e : (state_at a.seen).serial ≡ n + 1 = serial_then v a (Halt (n + 1)) g in omega (arith, e)

  -- the apps that were stopped are all of the serial
  pub halt_stops : (v a w : View T) (n : ℕ) → Knows v → nothing_left (state_at v.seen) ≡ true → n ≡ (state_at v.seen).serial → GoesOn v a (Halt (n + 1) ∷ []) → (stops : StopsOf a n w) → stopped_all stops.0.number stops.0.apps ≡ stopped_of (state_at (core_at v.seen)) n
  halt_stops v a w n knows left current g stops =
      let s : State = state_at (core_at v.seen) in
      let u : State = after s (Halt (n + 1)) in
      let leaves : Leaves u n stops.0 = subst (λ (z : State). Leaves z n stops.0) (state_goes v a (Halt (n + 1) ∷ []) g) stops.1 in
      stops_are s (agrees v knows) (unended_at v knows) (left_at v left) u n (current ∙ sym (serial_core v.seen)) (draft_of n s.published) refl refl (λ d x o there has. there) stops.0 leaves

  pub halt_goes : (v a w : View T) (n : ℕ) → Knows v → nothing_left (state_at v.seen) ≡ true → n ≡ (state_at v.seen).serial → GoesOn v a (Halt (n + 1) ∷ []) → StopsOf a n w → GoesOn v w (Halt (n + 1) ∷ stopped_of (state_at (core_at v.seen)) n)
  halt_goes v a w n knows left current g stops =
      goes_as v w _ _ (ap (λ (l : List Entry). Halt (n + 1) ∷ l) (halt_stops v a w n knows left current g stops))
      (goes_both v a w (Halt (n + 1) ∷ []) (stopped_all stops.0.number stops.0.apps) g stops.2)

  -- ---- a publishing

  pub publish_low : (v a : View T) (d n : ℕ) (c : Change) → GoesOn v a (Publish d (n + 1) n c ∷ []) → n < (state_at a.seen).serial
  publish_low v a d n c g = let e : (state_at a.seen).serial ≡ n + 1 = serial_then v a (Publish d (n + 1) n c) g in omega (arith, e)

  publish_current : (v a w : View T) (d : ℕ) (c : Change) → Knows v → nothing_left (state_at v.seen) ≡ true → GoesOn v a (Publish d ((state_at (core_at v.seen)).serial + 1) (state_at (core_at v.seen)).serial c ∷ []) → (stops : StopsOf a (state_at (core_at v.seen)).serial w)
      → stopped_all stops.0.number stops.0.apps ≡ stopped_of (state_at (core_at v.seen)) (state_at (core_at v.seen)).serial
  publish_current v a w d c knows left g stops =
      let s : State = state_at (core_at v.seen) in
      let e : Entry = Publish d (s.serial + 1) s.serial c in
      let may : allowed s e ≡ true = first (allowed s e) true (legal_goes v a (e ∷ []) g) in
      let leaves : Leaves (after s e) s.serial stops.0 = subst (λ (z : State). Leaves z s.serial stops.0) (state_goes v a (e ∷ []) g) stops.1 in
      stops_are s (agrees v knows) (unended_at v knows) (left_at v left) (after s e) s.serial refl (draft_of s.serial s.published) refl
      (publish_draft s (agrees v knows) (unended_at v knows) (left_at v left) d (s.serial + 1) c may)
      (λ j x o there has. publish_stays s (agrees v knows) (unended_at v knows) (left_at v left) d (s.serial + 1) c may j x there has) stops.0 leaves

  pub publish_stops : (v a w : View T) (d n : ℕ) (c : Change) → Knows v → nothing_left (state_at v.seen) ≡ true → n ≡ (state_at (core_at v.seen)).serial → GoesOn v a (Publish d (n + 1) n c ∷ []) → (stops : StopsOf a n w) → stopped_all stops.0.number stops.0.apps ≡ stopped_of (state_at (core_at v.seen)) n
  publish_stops v a w d n c knows left current =
      subst (λ (m : ℕ). GoesOn v a (Publish d (m + 1) m c ∷ []) → (stops : StopsOf a m w) → stopped_all stops.0.number stops.0.apps ≡ stopped_of (state_at (core_at v.seen)) m) (sym current) (publish_current v a w d c knows left)

  pub publish_goes : (v a w : View T) (d n : ℕ) (c : Change) → Knows v → nothing_left (state_at v.seen) ≡ true → n ≡ (state_at v.seen).serial → GoesOn v a (Publish d (n + 1) n c ∷ []) → StopsOf a n w → GoesOn v w (Publish d (n + 1) n c ∷ stopped_of (state_at (core_at v.seen)) n)
  publish_goes v a w d n c knows left current g stops =
      goes_as v w _ _ (ap (λ (l : List Entry). Publish d (n + 1) n c ∷ l) (publish_stops v a w d n c knows left (current ∙ sym (serial_core v.seen)) g stops))
      (goes_both v a w (Publish d (n + 1) n c ∷ []) (stopped_all stops.0.number stops.0.apps) g stops.2)

  -- ---- a retiring

  retires_it : (v : View T) (n : ℕ) → Knows v → has_number n v.duties ≡ true → Retires (state_at (core_at v.seen)) n
  retires_it v n knows due = can (state_at (core_at v.seen)) (Retire n) (retires_core v.seen n (knows.duties n due))

  pub retire_low : (v a : View T) (n : ℕ) → Knows v → has_number n v.duties ≡ true → GoesOn v a (Retire n ∷ []) → n < (state_at a.seen).serial
  retire_low v a n knows due g =
      let low = retirable-low (state_at (core_at v.seen)) n (retires_core v.seen n (knows.duties n due)) in
      let same : (state_at a.seen).serial ≡ (state_at (core_at v.seen)).serial = serial_then v a (Retire n) g in omega (arith, low, same)

  pub retire_retired : (v a : View T) (n : ℕ) → GoesOn v a (Retire n ∷ []) → has_number n (state_at a.seen).retired ≡ true
  retire_retired v a n g = sym (retired_core a.seen n) ∙ (ap (λ (z : State). has_number n z.retired) (state_goes v a (Retire n ∷ []) g) ∙ retired_here n (state_at (core_at v.seen)).retired)

  pub retire_stopped : (v a : View T) (n : ℕ) → Knows v → has_number n v.duties ≡ true → GoesOn v a (Retire n ∷ []) → apps_stopped (state_at a.seen) n ≡ true
  retire_stopped v a n knows due g = sym (stopped_core a.seen n) ∙ (ap (λ (z : State). apps_stopped z n) (state_goes v a (Retire n ∷ []) g) ∙ (retires_it v n knows due).stopped)

  pub retire_goes : (v a w : View T) (n : ℕ) → Knows v → nothing_left (state_at v.seen) ≡ true → has_number n v.duties ≡ true → GoesOn v a (Retire n ∷ []) → CleansOf a n w → GoesOn v w (block_of (state_at (core_at v.seen)) n)
  retire_goes v a w n knows left due g cleans =
      let s : State = state_at (core_at v.seen) in
      let f : Retires s n = retires_it v n knows due in
      let leaves : Leaves (after s (Retire n)) n cleans.0 = subst (λ (z : State). Leaves z n cleans.0) (state_goes v a (Retire n ∷ []) g) cleans.1 in
      let same : cleaned_all cleans.0.number cleans.0.instances ≡ cleaned_of s n = cleans_are s (agrees v knows) (unended_at v knows) (left_at v left) n f.unretired (draft_of n s.published) refl cleans.0 leaves in
      goes_as v w _ _ (ap (λ (l : List Entry). Retire n ∷ l) same) (goes_both v a w (Retire n ∷ []) (cleaned_all cleans.0.number cleans.0.instances) g cleans.2)

-- the serial of a request is the current one where no later one is
pub is_current : (n m serial : ℕ) → m ≡ serial → n ≤ serial → m ≤ n → n ≡ serial
is_current n m serial is there high = omega (arith, is, there, high)

-- another one is left
pub has_room : (m serial : ℕ) → m ≡ serial → serial ≤ LAST_SERIAL → m ≢ LAST_SERIAL → serial < LAST_SERIAL
has_room m serial is room more = omega (arith, is, room, more)

-- ---- why nothing may follow

-- where none is later
abbrev pub rest_of : State → Option Refusal
rest_of s =
    cond (is_full s s.serial) (Some (Refusal.full (oldest_before s.serial)))
    (cond (s.serial == LAST_SERIAL) (Some Refusal.exhausted) None)

none_later : (s : State) (n m : ℕ) → m ≡ s.serial → m ≤ n → refusal s n ≡ rest_of s
none_later s n m is high = ap (λ (b : Bool). cond b (Some (Refusal.superseded s.serial)) (rest_of s)) (not_less n s.serial (subst (λ (z : ℕ). z ≤ n) is high))
  where
    not_less : (n m : ℕ) → m ≤ n → nat_lt n m ≡ false
    not_less n m high = grind (arith, nat_tests)

full_none : (b : Bool) (j : ℕ) (rest : Option Refusal) → None ≡ cond b (Some j) None → cond b (Some (Refusal.full j)) rest ≡ rest
full_none true j rest is = absurd (let h : None ≡ Some j = is in cc)
full_none false j rest is = refl

none_oldest : (s : State) (n m : ℕ) → m ≡ s.serial → m ≤ n → None ≡ unretired_before s m → refusal s n ≡ cond (s.serial == LAST_SERIAL) (Some Refusal.exhausted) None
none_oldest s n m is high told =
    none_later s n m is high
    ∙ full_none (is_full s s.serial) (oldest_before s.serial) (cond (s.serial == LAST_SERIAL) (Some Refusal.exhausted) None) (told ∙ ap (unretired_before s) is)

pub by_none : (s : State) (n m : ℕ) → m ≡ s.serial → m ≤ n → None ≡ unretired_before s m → m ≢ LAST_SERIAL → refusal s n ≡ None
by_none s n m is high told more = none_oldest s n m is high told ∙ ap (λ (b : Bool). cond b (Some Refusal.exhausted) None) (ne_eqb s.serial LAST_SERIAL (λ e. more (is ∙ e)))
