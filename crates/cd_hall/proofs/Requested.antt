-- Requests that begin and end, and what passes keep when a turn is left.
use Rattle.std.proofs.Common.{◌≡◌, ◌≤◌, ◌<◌, ℕ, zero, suc, Bool, true, false, cond, List, [], ◌∷◌, ◌++◌, Option, None, Result, refl, sym, ap, subst, ◌∙◌, arith}
use Rattle.std.proofs.lemmas.List.{append_cancel_right}
use mathlib.Core.List.{IsPrefix}
use Rattle.cd_outside.specs.declared.fixtures.FixtureCall.{FixtureCall}
use Rattle.cd_tree.specs.declared.tree.Tree.{Tree}
use Rattle.cd_wire.specs.declared.request.Request.{Request}
use Rattle.cd_module.specs.declared.fault.LoadFault.{LoadFault}
use Rattle.cd_legal.specs.declared.plan.Plan.{Plan}
use Rattle.cd_legal.specs.declared.entry.Entry.{Entry}
use Rattle.cd_legal.specs.declared.entry.Entry.TheVariants.{Begin, Finish}
use Rattle.cd_legal.specs.declared.entry.Signed.{Signed}
use Rattle.cd_legal.specs.declared.limits.TheConstants.{MAX_BEGINS}
use Rattle.cd_legal.specs.declared.state.State.{State}
use Rattle.cd_legal.specs.Begins.{begins_now}
use Rattle.cd_legal.specs.Entry.{signed, entries}
use Rattle.cd_legal.specs.Laws.{core_at}
use Rattle.cd_legal.specs.Legal.{allowed, after, state_at}
use Rattle.cd_legal.specs.Placed.{Placed}
use Rattle.cd_legal.specs.Signing.{IsHistory}
use Rattle.cd_legal.specs.State.{conf_of, has_number}
use Rattle.cd_legal.specs.Whole.{nothing_left}
use Rattle.cd_legal.proofs.Begun.{begins-now}
use Rattle.cd_legal.proofs.Confs.{conf-stays}
use Rattle.cd_legal.proofs.Cores.{is_apart}
use Rattle.cd_legal.proofs.Logs.{prefix_trans, state-snoc, history-front}
use Rattle.cd_legal.proofs.Serials.{serial-rises}
use Rattle.cd_gate.specs.declared.gate.Gate.{Gate}
use Rattle.cd_gate.specs.declared.pass.Pass.{Pass}
use Rattle.cd_gate.specs.declared.pass.Turn.{Turn}
use Rattle.cd_gate.specs.declared.view.View.{View}
use Rattle.cd_gate.specs.Counts.{begins_in}
use Rattle.cd_gate.specs.Duties.{more_due}
use Rattle.cd_gate.specs.Knowing.{Knows, is_calm}
use Rattle.cd_gate.specs.Passes.{view, IsIdleOf, opening_of}
use Rattle.cd_gate.specs.Steps.{with_turn, without_turn, noted, worn}
use Rattle.cd_gate.specs.Tables.{FoundInTurn, Begins}
use Rattle.cd_gate.proofs.Entries.{core_quiet, left_same}
use Rattle.cd_gate.proofs.InTurn.{calm}
use Rattle.cd_life.specs.declared.board.Board.{Board}
use Rattle.cd_life.specs.Shares.{conf_in}
use Rattle.cd_life.specs.Standing.{Stood, Adds, Keeps, IsUnretired}
use Rattle.cd_life.proofs.Laws.{current_unretired}
use Rattle.cd_life.proofs.Shelving.{allowed_more}
use Rattle.cd_hall.specs.declared.hall.Hall.{Hall}
use Rattle.cd_hall.specs.declared.hall.Ticket.{Ticket}
use Rattle.cd_hall.specs.Calls.{IsPassOf, StaysCalm}
use Rattle.cd_hall.specs.Dues.{DueThen, DueAtEnd}
use Rattle.cd_hall.specs.Requests.{BegunNow, HasLooked}
use Rattle.cd_hall.specs.Since.{Since}
use Rattle.cd_hall.specs.Tickets.{HasConfiguration, IsTicketOf, HasBegun}
use Rattle.cd_hall.specs.Turned.{Turned}
use Rattle.cd_hall.specs.Turns.{InTurn}
use Rattle.cd_hall.proofs.Bare.{serial_core, conf_core, serial_alike, allows_core}
use Rattle.cd_hall.proofs.Goes.{since_self}
use Rattle.cd_hall.proofs.Placing.{turned_places}
use Rattle.cd_hall.proofs.Since.{looks, begun_further, spreads, turned_one}

-- a beginning changes no configuration
pub conf_begun : (log : List Signed) (k n m serial : ℕ) → conf_of (state_at (log ++ signed k (Begin n m) ∷ [])) serial ≡ conf_of (state_at log) serial
conf_begun log k n m serial = ap (λ (s : State). conf_of s serial) (state-snoc log (signed k (Begin n m))) ∙ same serial (state_at log)
  where
    same : (serial : ℕ) (s : State) → conf_of (after s (Begin n m)) serial ≡ conf_of s serial
    same zero s = refl
    same (suc j) s = refl

-- how many requests began under the current serial
pub begins_are : (log : List Signed) → IsHistory log → begins_now (entries log) ≡ begins_in log (state_at log).serial
begins_are log is = begins-now (entries log) is.is_legal

module _ {A F B : Type 0} {k : _} (calls : F → Option (List FixtureCall)) (faults : F → ℕ) (plan : Tree → Result Plan LoadFault) (makes : Tree → Request → Option Tree) (g : Gate (Board A F B k)) (t : Turn (Board A F B k)) (p : Pass (Board A F B k)) (h : InTurn (Stood calls faults plan makes) g t p) where
  abbrev core : List Signed
  core = core_at (view p).seen

  -- the board stands for what the pass has seen and the entry, which is allowed
  pub stands_on : (b : Board A F B k) (e : Entry) → Adds calls faults plan makes t.value b e → Stood calls faults plan makes (opening_of g) b (core ++ signed (view p).number e ∷ [])
  stands_on b e adds = adds (opening_of g) core (view p).number h.board

  pub allows_here : (b : Board A F B k) (e : Entry) → Adds calls faults plan makes t.value b e → allowed (state_at core) e ≡ true
  allows_here b e adds = allowed_more core (signed (view p).number e) (stands_on b e adds).desk.is_legal

  pub allows : (b : Board A F B k) (e : Entry) → is_apart e ≡ true → Adds calls faults plan makes t.value b e → allowed (state_at (view p).seen) e ≡ true
  allows b e apart adds = allows_core (view p).seen e apart (allows_here b e adds)

  -- nothing was added
  pub kept_turn : (u : Turn (Board A F B k)) → Keeps calls faults plan makes t.value u.value → InTurn (Stood calls faults plan makes) g u p
  kept_turn u keeps = record { turn = h.turn; knows = h.knows; board = keeps (opening_of g) core h.board }

  -- the current serial may be shared
  current_low : (n : ℕ) → n ≡ (state_at core).serial → n ≤ (state_at core).serial
  current_low n is = omega (arith, is)

  current_free : (n : ℕ) → n ≡ (state_at core).serial → has_number n (state_at core).retired ≡ false
  current_free n is = ap (λ (j : ℕ). has_number j (state_at core).retired) is ∙ current_unretired calls faults plan makes (opening_of g) t.value core h.board

  pub shares_current : (n : ℕ) → n ≡ (state_at core).serial → IsUnretired calls faults plan makes t.value n
  shares_current n is = (opening_of g, core, h.board, current_low n is, current_free n is)

  -- the request that was begun has the configuration that was shared
  pub ticket_begun : (tk : Ticket A B k) (asked : ℕ) (w : View (Board A F B k)) (log : List Signed) → asked ≡ (state_at core).serial
      → ((o : Board A F B k) (log : List Signed) → Stood calls faults plan makes o t.value log → asked ≤ (state_at log).serial → has_number asked (state_at log).retired ≡ false → conf_in tk.share ≡ conf_of (state_at log) asked)
      → Begins (view p) w tk.serial log → core_at log ≡ core → IsTicketOf w tk
  ticket_begun tk asked w log serial shares b same =
      let n : ℕ = tk.serial in
      let core_w : core_at w.seen ≡ core = ap (λ (z : View (Board A F B k)). core_at z.seen) b.is ∙ (core_quiet log (view p).number (Begin (view p).number n) refl ∙ same) in
      let low : (state_at w.seen).serial ≡ (state_at log).serial = serial_alike w.seen log (core_w ∙ sym same) in
      let here : (state_at core).serial ≡ (state_at log).serial = ap (λ (l : List Signed). (state_at l).serial) (sym same) ∙ serial_core log in
      let one : asked ≡ n = serial ∙ (here ∙ sym b.current) in
      let there : n ≤ (state_at w.seen).serial = (let now = b.current in omega (arith, low, now)) in
      record {
        own = ap (λ (z : View (Board A F B k)). z.ticket) b.is;
        has = record {
          there = there;
          conf = shares (opening_of g) core h.board (current_low asked serial) (current_free asked serial)
              ∙ (ap (λ (m : ℕ). conf_of (state_at core) m) one
              ∙ (ap (λ (l : List Signed). conf_of (state_at l) n) (sym core_w) ∙ conf_core w.seen n));
        };
      }

module _ {T : Type 0} where
  -- ---- in the turn

  -- an entry that is calm
  pub stays_calm : (v w : View T) (log : List Signed) (e : Entry) → FoundInTurn v log → IsHistory (log ++ signed v.number e ∷ []) → is_calm e ≡ true → nothing_left (state_at v.seen) ≡ true → w ≡ noted v log e → StaysCalm v w
  stays_calm v w log e f now is left seen =
      let c = calm v log e f now is left in
      subst (λ (z : View T). StaysCalm v z) (sym seen) record { duties = c.0; unsettled = refl; left = c.1 }

  pub calm_self : (v w : View T) → nothing_left (state_at v.seen) ≡ true → w ≡ v → StaysCalm v w
  calm_self v w left same = subst (λ (z : View T). StaysCalm v z) (sym same) record { duties = refl; unsettled = refl; left = left }

  -- a request that began
  pub begun_calm : (v w : View T) (n : ℕ) (log : List Signed) → Begins v w n log → core_at log ≡ core_at v.seen → nothing_left (state_at v.seen) ≡ true → StaysCalm v w
  begun_calm v w n log b same left = record {
    duties = ap (λ (z : View T). z.duties) b.is;
    unsettled = ap (λ (z : View T). z.unsettled) b.is;
    left = left_same v.seen w.seen (ap (λ (z : View T). core_at z.seen) b.is ∙ (core_quiet log v.number (Begin v.number n) refl ∙ same)) ∙ left;
  }

  -- a look that found no room
  pub worn_calm : (v w : View T) (log : List Signed) → FoundInTurn v log → w ≡ worn v log → nothing_left (state_at v.seen) ≡ true → StaysCalm v w
  worn_calm v w log f is left = record {
    duties = ap (λ (z : View T). z.duties) is;
    unsettled = ap (λ (z : View T). z.unsettled) is;
    left = left_same v.seen w.seen (ap (λ (z : View T). core_at z.seen) is ∙ f.core_is) ∙ left;
  }

  pub worn_looks : (v w : View T) (log : List Signed) → Knows v → FoundInTurn v log → w ≡ worn v log → HasLooked v w
  worn_looks v w log knows f is = record {
    found = log;
    since = looks v v w v.seen log (since_self v knows) f.found (subst (λ (z : View T). w ≡ record v { seen = log; checked = z.checked }) (sym is) is);
    checked = ap (λ (z : View T). z.checked) is;
  }

  pub looks_self : (v w : View T) → Knows v → w ≡ v → HasLooked v w
  looks_self v w knows is = subst (λ (z : View T). HasLooked v z) (sym is) record { found = v.seen; since = since_self v knows; checked = refl }

  pub worn_is : (v w : View T) (log : List Signed) → IsHistory log → MAX_BEGINS ≤ begins_in log (state_at log).serial → w ≡ worn v log → MAX_BEGINS ≤ begins_now (entries w.seen)
  worn_is v w log is most same =
      subst (λ (l : List Signed). MAX_BEGINS ≤ begins_now (entries l)) (sym (ap (λ (z : View T). z.seen) same)) (subst (λ (n : ℕ). MAX_BEGINS ≤ n) (sym (begins_are log is)) most)

  -- ---- the whole turn

  pub number_in : (v w : View T) → w ≡ with_turn v w.seen → w.number ≡ v.number
  number_in v w same = ap (λ (z : View T). z.number) same

  pub free_in : (v w : View T) → w ≡ with_turn v w.seen → v.ticket ≡ None → w.ticket ≡ None
  free_in v w same free = ap (λ (z : View T). z.ticket) same ∙ free

  pub no_draft_in : (v w : View T) → w ≡ with_turn v w.seen → v.draft ≡ None → w.draft ≡ None
  no_draft_in v w same free = ap (λ (z : View T). z.draft) same ∙ free

  pub quiet_in : (v w : View T) → w ≡ with_turn v w.seen → v.unsettled ≡ None → w.unsettled ≡ None
  quiet_in v w same quiet = ap (λ (z : View T). z.unsettled) same ∙ quiet

  pub duty_in : (v w : View T) (n : ℕ) → w ≡ with_turn v w.seen → has_number n v.duties ≡ true → has_number n w.duties ≡ true
  duty_in v w n same due = ap (λ (z : View T). has_number n z.duties) same ∙ due

  pub seen_after : (x y : View T) → y ≡ without_turn x → y.seen ≡ x.seen
  seen_after x y is = ap (λ (z : View T). z.seen) is

  pub duties_after : (v w x y : View T) (ds : List ℕ) → w ≡ with_turn v w.seen → x.duties ≡ ds ++ w.duties → y ≡ without_turn x → y.duties ≡ ds ++ v.duties
  duties_after v w x y ds same has is = ap (λ (z : View T). z.duties) is ∙ (has ∙ ap (λ (z : View T). ds ++ z.duties) same)

  pub same_duties_after : (v w x y : View T) → w ≡ with_turn v w.seen → x.duties ≡ w.duties → y ≡ without_turn x → y.duties ≡ v.duties
  same_duties_after v w x y same has is = ap (λ (z : View T). z.duties) is ∙ (has ∙ ap (λ (z : View T). z.duties) same)

  pub same_checked : (v w x : View T) → w ≡ with_turn v w.seen → x.checked ≡ w.checked → v.checked ≡ false → x.checked ≡ false
  same_checked v w x same has none = has ∙ (ap (λ (z : View T). z.checked) same ∙ none)

  pub same_unsettled : (v w x : View T) → w ≡ with_turn v w.seen → x.unsettled ≡ w.unsettled → x.unsettled ≡ v.unsettled
  same_unsettled v w x same has = has ∙ ap (λ (z : View T). z.unsettled) same

  -- a request was begun since the turn was taken
  pub begin_turned : (v w x y : View T) (n : ℕ) (log : List Signed) → Since v w w.seen [] → w ≡ with_turn v w.seen → Begins w x n log → v.turn ≡ false → x.checked ≡ v.checked → x.ready ≡ v.ready → x.unsettled ≡ v.unsettled → y ≡ without_turn x → Turned v y log (Begin v.number n ∷ [])
  begin_turned v w x y n log since same b idle checked ready unsettled is =
      let p : Placed = record { before = log; entry = Begin w.number n } in
      let s : Since v x log (p ∷ []) = begun_further v w x n w.seen log [] since b in
      subst (λ (j : ℕ). Turned v y log (Begin j n ∷ [])) (number_in v w same) (turned_one v x y log p s (seen_after x y is) (spreads v x y log (p ∷ []) s is idle checked ready unsettled))

  -- a ticket keeps its configuration while the history grows
  pub configuration_stays : {A B : Type 0} {k : _} (v w : View T) (tk : Ticket A B k) → HasConfiguration v tk → IsPrefix v.seen w.seen → IsHistory w.seen → HasConfiguration w tk
  configuration_stays v w tk has front history =
      let up = serial-rises v.seen w.seen front history.is_legal in
      let there = has.there in
      record {
        there = omega (arith, up, there);
        conf = has.conf ∙ sym (conf-stays v.seen w.seen tk.serial front history.is_legal has.there);
      }

  pub ticket_stays : {A B : Type 0} {k : _} (v w : View T) (tk : Ticket A B k) → IsTicketOf v tk → IsPrefix v.seen w.seen → IsHistory w.seen → w.ticket ≡ v.ticket → IsTicketOf w tk
  ticket_stays v w tk is front history same = record { own = same ∙ is.own; has = configuration_stays v w tk is.has front history }

  -- the ticket when the turn is left
  pub ticket_after : {A B : Type 0} {k : _} (x y : View T) (tk : Ticket A B k) → y ≡ without_turn x → IsTicketOf x tk → IsTicketOf y tk
  ticket_after x y tk is has =
      let left : IsTicketOf (without_turn x) tk = record { own = has.own; has = record { there = has.has.there; conf = has.has.conf } } in
      subst (λ (z : View T). IsTicketOf z tk) (sym is) left

  -- the ticket when the turn is taken
  pub ticket_taken : {A B : Type 0} {k : _} (v w : View T) (tk : Ticket A B k) → w ≡ with_turn v w.seen → Since v w w.seen [] → Knows w → IsTicketOf v tk → IsTicketOf w tk
  ticket_taken v w tk same since knows has = ticket_stays v w tk has since.seen knows.history (ap (λ (z : View T). z.ticket) same)

  -- the request was begun under its ticket, where fewer had begun than may
  pub has_begun : {A B : Type 0} {k : _} (v w x y : View T) (found : List Signed) (tk : Ticket A B k) → Turned v y found (Begin v.number tk.serial ∷ []) → IsPrefix v.seen w.seen → BegunNow w x tk.serial found → IsTicketOf y tk
      → (begin : Placed) × HasBegun v y tk begin
  has_begun v w x y found tk t front b is = (
    record { before = found; entry = Begin v.number tk.serial },
    record {
      places = turned_places v y found (Begin v.number tk.serial ∷ []) t;
      seen = t.seen;
      begins = refl;
      with_ticket = record {
        conf_is =
            ap (λ (n : ℕ). conf_of (state_at found) n) (sym b.begins.current)
            ∙ (sym (conf_begun found v.number v.number tk.serial tk.serial)
            ∙ (ap (λ (l : List Signed). conf_of (state_at l) tk.serial) (sym t.is) ∙ sym is.has.conf));
        serial_is = sym b.begins.current;
      };
      had_room = record { room = b.room; after = prefix_trans v.seen w.seen b.room front b.after; before = b.before; few = subst (λ (n : ℕ). n < MAX_BEGINS) (sym (begins_are b.room (history-front b.room found b.before b.begins.found.history))) b.few };
    },
  )

  -- ---- the end of a request

  pub finish_due : (v y : View T) (found other : List Signed) (n : ℕ) (ds es : List ℕ) → Turned v y found (Finish v.number ∷ []) → DueThen (state_at found) n ds → es ≡ ds → Turned v y other (Finish v.number ∷ []) → DueThen (state_at other) n es
  finish_due v y found other n ds es t due same u =
      subst (λ (z : List Signed × List ℕ). DueThen (state_at z.0) n z.1)
      (let one : found ≡ other = append_cancel_right found other (signed v.number (Finish v.number) ∷ []) (sym t.is ∙ u.is) in λ i. (one i, sym same i)) due

  pub finish_settled : (v y : View T) (found other : List Signed) (n : ℕ) (done : Bool) (ds es : List ℕ) → Turned v y found (Finish v.number ∷ []) → DueAtEnd (state_at found) n done ds → es ≡ ds → Turned v y other (Finish v.number ∷ []) → DueAtEnd (state_at other) n done es
  finish_settled v y found other n done ds es t due same u =
      subst (λ (z : List Signed × List ℕ). DueAtEnd (state_at z.0) n done z.1)
      (let one : found ≡ other = append_cancel_right found other (signed v.number (Finish v.number) ∷ []) (sym t.is ∙ u.is) in λ i. (one i, sym same i)) due

  pub finish_duties : (v y : View T) (due : Bool) (n : ℕ) (ds : List ℕ) → y.duties ≡ more_due due n v.duties → ds ≡ cond due (n ∷ []) [] → y.duties ≡ ds ++ v.duties
  finish_duties v y due n ds is same = is ∙ (split due ∙ ap (λ (l : List ℕ). l ++ v.duties) (sym same))
    where
      split : (b : Bool) → more_due b n v.duties ≡ cond b (n ∷ []) [] ++ v.duties
      split true = refl
      split false = refl

-- the pass after the turn
pub pass_after : {A F B : Type 0} {k : _} (h : Hall A F B k) (p : Pass (Board A F B k)) (x : View (Board A F B k)) → IsIdleOf h.gate p → view p ≡ without_turn x → x.checked ≡ false → IsHistory x.seen → IsPassOf h p
pass_after {A} {F} {B} {k} h p x idle is unchecked history = record {
  idle = idle;
  unchecked = ap (λ (z : View (Board A F B k)). z.checked) is ∙ unchecked;
  history = subst (λ (l : List Signed). IsHistory l) (sym (ap (λ (z : View (Board A F B k)). z.seen) is)) history;
}
