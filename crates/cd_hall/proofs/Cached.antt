-- Requests that begin without waiting, and the configurations that caches keep for them.
use Rattle.std.proofs.Common.{◌≡◌, ◌≤◌, ℕ, ◌==◌, Bool, true, false, List, [], ◌∷◌, ◌++◌, Option, Some, None, Result, IfSome, refl, sym, ap, subst, ◌∙◌, ⊎_elim, arith}
use Rattle.std.specs.Prelude.{◌&&◌, option_map}
use Rattle.std.proofs.lemmas.List.{append-nil}
use mathlib.Core.List.{IsPrefix}
use Rattle.cd_outside.specs.declared.fixtures.FixtureCall.{FixtureCall}
use Rattle.cd_tree.specs.declared.tree.Tree.{Tree}
use Rattle.cd_wire.specs.declared.request.Request.{Request}
use Rattle.cd_module.specs.declared.fault.LoadFault.{LoadFault}
use Rattle.cd_legal.specs.declared.plan.Plan.{Plan}
use Rattle.cd_legal.specs.declared.entry.Entry.{Entry}
use Rattle.cd_legal.specs.declared.entry.Entry.TheVariants.{Begin, Finish}
use Rattle.cd_legal.specs.declared.entry.Signed.{Signed}
use Rattle.cd_legal.specs.declared.limits.TheConstants.{MAX_BEGINS}
use Rattle.cd_legal.specs.Entry.{signed, entries, mine}
use Rattle.cd_legal.specs.Laws.{core_at}
use Rattle.cd_legal.specs.Legal.{state_at}
use Rattle.cd_legal.specs.Owing.{Owes}
use Rattle.cd_legal.specs.Placed.{Placed}
use Rattle.cd_legal.specs.Signing.{IsHistory}
use Rattle.cd_legal.specs.State.{conf_of, has_number, open_at, ticket_of}
use Rattle.cd_legal.proofs.Callers.{ticket-open, ticket-born}
use Rattle.cd_legal.proofs.Confs.{conf-stays}
use Rattle.cd_legal.proofs.Logs.{prefix_more, prefix_trans, mine-own}
use Rattle.cd_legal.proofs.Owed.{owed-ticket}
use Rattle.cd_legal.proofs.Serials.{serial-rises}
use Rattle.cd_gate.specs.declared.gate.Gate.{Gate}
use Rattle.cd_gate.specs.declared.pass.Pass.{Pass}
use Rattle.cd_gate.specs.declared.pass.Turn.{Turn}
use Rattle.cd_gate.specs.declared.view.View.{View}
use Rattle.cd_gate.specs.Counts.{begins_in}
use Rattle.cd_gate.specs.Passes.{view, IsIdleOf, HasTurnOf, Stays, opening_of}
use Rattle.cd_gate.specs.Steps.{adding, with_turn, without_turn, worn}
use Rattle.cd_gate.specs.Tables.{Found, FoundInTurn}
use Rattle.cd_gate.proofs.Grown.{places_both}
use Rattle.cd_gate.proofs.Longer.{prefix_self}
use Rattle.cd_gate.proofs.Numbers.{tells}
use Rattle.cd_gate.proofs.Tickets.{retired-free}
use Rattle.cd_life.specs.declared.board.Board.{Board}
use Rattle.cd_life.specs.Shares.{conf_in}
use Rattle.cd_life.specs.Standing.{Stood, IsUnretired}
use Rattle.cd_hall.specs.declared.cache.Cache.{Cache}
use Rattle.cd_hall.specs.declared.hall.Hall.{Hall}
use Rattle.cd_hall.specs.declared.hall.Ticket.{Ticket}
use Rattle.cd_hall.specs.Caches.{IsCacheOf, cached}
use Rattle.cd_hall.specs.Calls.{IsPassOf}
use Rattle.cd_hall.specs.Requests.{BegunNow}
use Rattle.cd_hall.specs.Tickets.{HasConfiguration, IsTicketOf, HasBegun}
use Rattle.cd_hall.specs.Turned.{Turned}
use Rattle.cd_hall.specs.Turns.{InTurn}
use Rattle.cd_hall.proofs.Bare.{serial_core, halted_core, retired_core, conf_core}
use Rattle.cd_hall.proofs.Begun.{looked, began, in_turn_then}
use Rattle.cd_hall.proofs.Placing.{turned_places}
use Rattle.cd_hall.proofs.Requested.{configuration_stays, has_begun}

pub cached_is : {A B : Type 0} {k : _} (c : Cache A B k) (t : Ticket A B k) → c.ticket ≡ Some t → cached c ≡ Some t.serial
cached_is {A} {B} {k} c t some = ap (λ (o : Option (Ticket A B k)). option_map (λ (z : Ticket A B k). z.serial) o) some

-- ---- two steps

module _ {T : Type 0} where
  pub stays_both : (g : Gate T) (p q r : Pass T) → Stays g p q → Stays g q r → Stays g p r
  stays_both g p q r a b = (b.0, λ idle. b.1 (a.1 idle), λ turn. b.2 (a.2 turn))

  -- no room was found: more was seen, and that is all
  abbrev pub IsWorn : View T → View T → Type 0
  IsWorn v w = (log : List Signed) × Found v log × (MAX_BEGINS ≤ begins_in log (state_at log).serial) × (w ≡ worn v log)

  -- in the turn
  pub begun_turn : (stands : T → T → List Signed → Type 0) (g : Gate T) (t : Turn T) (p q : Pass T) (o : Option ℕ) → InTurn stands g t p → HasTurnOf g q
      → IfSome o (λ n. (log : List Signed) × BegunNow (view p) (view q) n log) → (o ≡ None → IsWorn (view p) (view q)) → InTurn stands g t q
  begun_turn stands g t p q None i turn begun worn = let w = worn refl in looked stands g t p q (view p).checked w.0 i w.1 turn w.3
  begun_turn stands g t p q (Some n) i turn begun worn = began stands g t p q n begun.0 i begun.1.begins turn

  pub begun_in_turn : (v w : View T) (o : Option ℕ) → v.turn ≡ true → IfSome o (λ n. (log : List Signed) × BegunNow v w n log) → IfSome o (λ n. (log : List Signed) × BegunNow v w n log × FoundInTurn v log)
  begun_in_turn v w None turn begun = tt
  begun_in_turn v w (Some n) turn begun = (begun.0, begun.1, in_turn_then v begun.0 begun.1.begins.found turn)

  -- ---- what was seen

  module _ (v w : View T) (n : ℕ) (log : List Signed) (b : BegunNow v w n log) where
    seen_is : w.seen ≡ log ++ signed v.number (Begin v.number n) ∷ []
    seen_is = ap (λ (z : View T). z.seen) b.begins.is

    pub begun_seen : IsPrefix v.seen w.seen
    begun_seen = subst (λ (l : List Signed). IsPrefix v.seen l) (sym seen_is) (prefix_more v.seen log (signed v.number (Begin v.number n) ∷ []) b.begins.found.seen)

    pub begun_history : IsHistory w.seen
    begun_history = subst (λ (l : List Signed). IsHistory l) (sym seen_is) b.begins.history

    begun_own : w.ticket ≡ Some n
    begun_own = ap (λ (z : View T). z.ticket) b.begins.is

    -- the Begin is all that was made
    pub begun_turned : v.checked ≡ false → Turned v w log (Begin v.number n ∷ [])
    begun_turned unchecked = subst (λ (z : View T). Turned v z log (Begin v.number n ∷ [])) (sym b.begins.is) record {
      seen = b.begins.found.seen;
      is = refl;
      grows = record {
        seen = prefix_more v.seen log (signed v.number (Begin v.number n) ∷ []) b.begins.found.seen;
        history = b.begins.history;
        before = b.begins.found.own_seen;
        own = mine-own log v.number (Begin v.number n) ∙ ap (λ (l : List Signed). l ++ signed v.number (Begin v.number n) ∷ []) b.begins.found.own;
        adds = refl;
        last = (log, refl);
        owes = refl;
        same = ap (λ (q : Bool). record (adding v log (Begin v.number n)) { checked = q }) (sym unchecked);
      };
    }

  pub worn_seen : (v w : View T) → IsWorn v w → IsPrefix v.seen w.seen
  worn_seen v w is = subst (λ (z : View T). IsPrefix v.seen z.seen) (sym is.3) is.1.seen

  pub worn_history : (v w : View T) → IsWorn v w → IsHistory w.seen
  worn_history v w is = subst (λ (z : View T). IsHistory z.seen) (sym is.3) is.1.history

  -- nothing was made
  pub worn_turned : (v w : View T) (log : List Signed) → Found v log → w ≡ worn v log → Turned v w log []
  worn_turned v w log f is = subst (λ (z : View T). Turned v z log []) (sym is) record {
    seen = f.seen;
    is = sym (append-nil log);
    grows = record { seen = f.seen; history = f.history; before = f.own_seen; own = f.own; adds = sym (append-nil v.mine); last = tt; owes = refl; same = refl };
  }

  -- ---- caches

  module _ {A B : Type 0} {k : _} where
    -- while the history grows
    pub cache_stays : (v w : View T) (c : Cache A B k) → IsCacheOf v c → IsPrefix v.seen w.seen → IsHistory w.seen → IsCacheOf w c
    cache_stays v w c is seen history = by_ticket c.ticket is
      where
        by_ticket : (o : Option (Ticket A B k)) → IfSome o (λ (t : Ticket A B k). HasConfiguration v t) → IfSome o (λ (t : Ticket A B k). HasConfiguration w t)
        by_ticket None has = tt
        by_ticket (Some t) has = configuration_stays v w t has seen history

    pub cache_has : (v : View T) (c : Cache A B k) (t : Ticket A B k) → c.ticket ≡ Some t → HasConfiguration v t → IsCacheOf v c
    cache_has v c t some has = subst (λ (o : Option (Ticket A B k)). IfSome o (λ (t : Ticket A B k). HasConfiguration v t)) (sym some) has

    -- the ticket of the cache is that of the request that has begun at its serial
    pub ticket_ready : (v w : View T) (c : Cache A B k) (t : Ticket A B k) (n : ℕ) (log : List Signed) → IsCacheOf v c → c.ticket ≡ Some t → t.serial ≡ n → BegunNow v w n log → IsTicketOf w t
    ticket_ready v w c t n log is some at b =
        let has : HasConfiguration v t = subst (λ (o : Option (Ticket A B k)). IfSome o (λ (t : Ticket A B k). HasConfiguration v t)) some is in
        record {
          own = begun_own v w n log b ∙ ap (λ (m : ℕ). Some m) (sym at);
          has = configuration_stays v w t has (begun_seen v w n log b) (begun_history v w n log b);
        }

    -- ---- the Begin of a ticket

    pub begun_has : (v w : View T) (t : Ticket A B k) (log : List Signed) → BegunNow v w t.serial log → v.checked ≡ false → IsTicketOf w t → (begin : Placed) × HasBegun v w t begin
    begun_has v w t log b unchecked is = has_begun v v w w log t (begun_turned v w t.serial log b unchecked) (prefix_self v.seen) b is

    -- the ticket was had later, while nothing was made
    pub fetched_has : (v w x : View T) (t : Ticket A B k) (log found : List Signed) → BegunNow v w t.serial log → v.checked ≡ false → Turned w x found [] → IsTicketOf x t → (begin : Placed) × HasBegun v x t begin
    fetched_has v w x t log found b unchecked turned is =
        let front : IsPrefix w.seen x.seen = turned.grows.seen in
        let now : IsHistory w.seen = begun_history v w t.serial log b in
        let there : t.serial ≤ (state_at w.seen).serial = at_least v w t.serial log b in
        let early : IsTicketOf w t = record {
          own = begun_own v w t.serial log b;
          has = record { there = there; conf = is.has.conf ∙ conf-stays w.seen x.seen t.serial front turned.grows.history.is_legal there };
        } in
        let h = begun_has v w t log b unchecked early in (
          h.0,
          record {
            places = places_both v w x (h.0 ∷ []) [] h.1.places (turned_places w x found [] turned);
            seen = h.1.seen;
            begins = h.1.begins;
            with_ticket = h.1.with_ticket;
            had_room = h.1.had_room;
          },
        )
      where
        at_least : (v w : View T) (n : ℕ) (log : List Signed) → BegunNow v w n log → n ≤ (state_at w.seen).serial
        at_least v w n log b =
            let now = b.begins.current in
            let up = serial-rises log w.seen (signed v.number (Begin v.number n) ∷ [], sym (seen_is v w n log b)) (begun_history v w n log b).is_legal in omega (arith, now, up)

  -- ---- a turn in which nothing was made

  pub ticket_in : (v w : View T) (n : ℕ) → w ≡ with_turn v w.seen → v.ticket ≡ Some n → w.ticket ≡ Some n
  ticket_in v w n same has = ap (λ (z : View T). z.ticket) same ∙ has

  -- more was seen, and then entries were made
  pub looked_then : (v w x : View T) (found : List Signed) (made : List Entry) → IsPrefix v.seen w.seen → mine v.number v.seen ≡ v.mine → w ≡ record v { seen = w.seen } → Turned w x found made → Turned v x found made
  looked_then v w x found made front own same t =
      let u : Turned (record v { seen = w.seen }) x found made = subst (λ (z : View T). Turned z x found made) same t in
      record {
        seen = prefix_trans v.seen w.seen found front u.seen;
        is = u.is;
        grows = record {
          seen = prefix_trans v.seen w.seen x.seen front u.grows.seen;
          history = u.grows.history;
          before = own;
          own = u.grows.own;
          adds = u.grows.adds;
          last = u.grows.last;
          owes = u.grows.owes;
          same = u.grows.same;
        };
      }

  -- its last entry is the end of a request
  module _ (v w x : View T) (f found : List Signed) (looked : Turned v w f []) (same : w ≡ record v { seen = w.seen }) where
    number_then : w.number ≡ v.number
    number_then = ap (λ (z : View T). z.number) same

    pub ends_then : Turned w x found (Finish w.number ∷ []) → Turned v x found (Finish v.number ∷ [])
    ends_then t = looked_then v w x found (Finish v.number ∷ []) looked.grows.seen looked.grows.before same (subst (λ (k : ℕ). Turned w x found (Finish k ∷ [])) number_then t)

    pub runs_then : (n : ℕ) → ticket_of w.number (state_at found).tickets ≡ Some n → ticket_of v.number (state_at found).tickets ≡ Some n
    runs_then n is = ap (λ (k : ℕ). ticket_of k (state_at found).tickets) (sym number_then) ∙ is

    pub duties_then : (ds : List ℕ) → x.duties ≡ ds ++ w.duties → x.duties ≡ ds ++ v.duties
    duties_then ds is = is ∙ ap (λ (z : View T). ds ++ z.duties) same

-- ---- the share of a request that runs

module _ {A F B : Type 0} {k : _} (calls : F → Option (List FixtureCall)) (faults : F → ℕ) (plan : Tree → Result Plan LoadFault) (makes : Tree → Request → Option Tree) (g : Gate (Board A F B k)) (t : Turn (Board A F B k)) (p : Pass (Board A F B k)) (h : InTurn (Stood calls faults plan makes) g t p) where
  abbrev seen : List Signed
  seen = (view p).seen

  module _ (n : ℕ) (runs : (view p).ticket ≡ Some n) where
    running : ticket_of (view p).number (state_at seen).tickets ≡ Some n
    running = sym (owed-ticket seen (view p).number h.knows.history) ∙ (ap (λ (o : Owes). o.ticket) h.knows.owes ∙ runs)

    is_there : n ≤ (state_at seen).serial
    is_there = ticket-born (entries seen) (view p).number n h.knows.history.is_legal running

    is_there_core : n ≤ (state_at (core_at seen)).serial
    is_there_core = subst (λ (m : ℕ). n ≤ m) (sym (serial_core seen)) is_there

    unretired : has_number n (state_at seen).retired ≡ false
    unretired = ⊎_elim (λ q. absurd (some_open (retired-free (entries seen) n h.knows.history.is_legal q).1)) (λ q. q) (tells (has_number n (state_at seen).retired))
      where
        some_open : open_at n (state_at seen).tickets ≡ 0 → ⊥
        some_open none = let one = ticket-open (view p).number n (state_at seen).tickets running in absurd (omega (arith, one, none))

    unretired_core : has_number n (state_at (core_at seen)).retired ≡ false
    unretired_core = retired_core seen n ∙ unretired

    pub shares_open : IsUnretired calls faults plan makes t.value n
    shares_open = (opening_of g, core_at seen, h.board, is_there_core, unretired_core)

    -- what is shared is its configuration, also once the turn is left
    pub has_shared : (tk : Ticket A B k) (y : View (Board A F B k)) → tk.serial ≡ n → y ≡ without_turn (view p)
        → ((o : Board A F B k) (log : List Signed) → Stood calls faults plan makes o t.value log → n ≤ (state_at log).serial → has_number n (state_at log).retired ≡ false → conf_in tk.share ≡ conf_of (state_at log) n)
        → HasConfiguration y tk
    has_shared tk y at left shares =
        let conf : conf_in tk.share ≡ conf_of (state_at seen) n = shares (opening_of g) (core_at seen) h.board is_there_core unretired_core ∙ conf_core seen n in
        let now : seen ≡ y.seen = sym (ap (λ (z : View (Board A F B k)). z.seen) left) in
        let low : tk.serial ≤ (state_at seen).serial = (let there = is_there in omega (arith, at, there)) in
        record {
          there = subst (λ (l : List Signed). tk.serial ≤ (state_at l).serial) now low;
          conf = subst (λ (l : List Signed). conf_in tk.share ≡ conf_of (state_at l) tk.serial) now (conf ∙ ap (λ (m : ℕ). conf_of (state_at seen) m) (sym at));
        }

    -- whether it is that of the halt
    pub is_halt_then : (y : View (Board A F B k)) (halted q : Bool) (current : ℕ) → y ≡ without_turn (view p) → halted ≡ (state_at (core_at seen)).halted → current ≡ (state_at (core_at seen)).serial → q ≡ (halted && (n == current))
        → q ≡ ((state_at y.seen).halted && (n == (state_at y.seen).serial))
    is_halt_then y halted q current left a b is =
        let now : seen ≡ y.seen = sym (ap (λ (z : View (Board A F B k)). z.seen) left) in
        let here : q ≡ ((state_at seen).halted && (n == (state_at seen).serial)) = is ∙ (let u = a ∙ halted_core seen in let w = b ∙ serial_core seen in λ i. u i && (n == w i)) in
        subst (λ (l : List Signed). q ≡ ((state_at l).halted && (n == (state_at l).serial))) now here

-- the pass has made entries by a step
pub pass_ended : {A F B : Type 0} {k : _} (h : Hall A F B k) (p q : Pass (Board A F B k)) (found : List Signed) (made : List Entry) → IsPassOf h p → IsIdleOf h.gate q → Turned (view p) (view q) found made → IsPassOf h q
pass_ended {A} {F} {B} {k} h p q found made is idle t = record { idle = idle; unchecked = ap (λ (z : View (Board A F B k)). z.checked) t.grows.same ∙ is.unchecked; history = t.grows.history }
