-- A pass in its turn that has looked for room, or begun a request.
use Rattle.std.proofs.Common.{Bool, ◌≡◌, ℕ, ◌<◌, true, List, [], ◌∷◌, ◌++◌, refl, sym, ap, subst, ◌∙◌}
use Rattle.cd_legal.specs.declared.entry.Entry.TheVariants.{Begin}
use Rattle.cd_legal.specs.declared.entry.Signed.{Signed}
use Rattle.cd_legal.specs.declared.limits.TheConstants.{MAX_BEGINS}
use Rattle.cd_legal.specs.declared.state.State.{State}
use Rattle.cd_legal.specs.Entry.{signed, entries}
use Rattle.cd_legal.specs.Laws.{core_at}
use Rattle.cd_legal.specs.Legal.{allowed, state_at, may_retire}
use Rattle.cd_legal.specs.Owing.{Owes, owes_by}
use Rattle.cd_legal.proofs.Histories.{first}
use Rattle.cd_legal.proofs.Logs.{prefix_trans, state-snoc, mine-own, legal-back}
use Rattle.cd_legal.proofs.Owing.{owes-own}
use Rattle.cd_legal.proofs.Serials.{legal-agree}
use Rattle.cd_gate.specs.declared.gate.Gate.{Gate}
use Rattle.cd_gate.specs.declared.pass.Pass.{Pass}
use Rattle.cd_gate.specs.declared.pass.Turn.{Turn}
use Rattle.cd_gate.specs.declared.view.View.{View}
use Rattle.cd_gate.specs.Counts.{begins_in}
use Rattle.cd_gate.specs.Knowing.{Knows}
use Rattle.cd_gate.specs.Passes.{view, HasTurnOf, opening_of}
use Rattle.cd_gate.specs.Steps.{checking}
use Rattle.cd_gate.specs.Tables.{Found, FoundInTurn, Begins}
use Rattle.cd_gate.proofs.Entries.{core_quiet}
use Rattle.cd_gate.proofs.InTurn.{retirable_on}
use Rattle.cd_gate.proofs.Retiring.{retirable-stays}
use Rattle.cd_hall.specs.Requests.{BegunNow}
use Rattle.cd_hall.specs.Turns.{InTurn}

module _ {T : Type 0} where
  -- once it has looked
  pub looked : (stands : T → T → List Signed → Type 0) (g : Gate T) (t : Turn T) (p q : Pass T) (checked : Bool) (log : List Signed) → InTurn stands g t p → Found (view p) log → HasTurnOf g q → view q ≡ record (view p) { checked = checked; seen = log } → InTurn stands g t q
  looked stands g t p q checked log i f turn is =
      let core = f.in_turn i.turn.1 in
      record {
        turn = turn;
        knows = subst (λ (z : View T). Knows z) (sym is) record {
          history = f.history;
          own = f.own;
          owes = f.owes;
          duties = λ n has. retirable_on n (view p).seen log f.seen f.history core (i.knows.duties n has);
        };
        board = subst (λ (l : List Signed). stands (opening_of g) t.value l) (sym (ap (λ (z : View T). core_at z.seen) is ∙ core)) i.board;
      }

  -- once it has begun a request
  pub began : (stands : T → T → List Signed → Type 0) (g : Gate T) (t : Turn T) (p q : Pass T) (serial : ℕ) (log : List Signed) → InTurn stands g t p → Begins (view p) (view q) serial log → HasTurnOf g q → InTurn stands g t q
  began stands g t p q serial log i b turn =
      let v : View T = view p in
      let e = Begin v.number serial in
      let core = b.found.in_turn i.turn.1 in
      let allows : allowed (state_at log) e ≡ true = first (allowed (state_at log) e) _ (legal-back log (signed v.number e ∷ []) b.history.is_legal) in
      record {
        turn = turn;
        knows = subst (λ (z : View T). Knows z) (sym b.is) record {
          history = b.history;
          own = mine-own log v.number e ∙ ap (λ (l : List Signed). l ++ signed v.number e ∷ []) b.found.own;
          owes = owes-own v.number log e ∙ ap (λ (o : Owes). owes_by o e) b.found.owes;
          duties = λ n has. ap (λ (s : State). may_retire s n) (state-snoc log (signed v.number e))
              ∙ retirable-stays (state_at log) n e (legal-agree (entries log) b.found.history.is_legal) allows refl
              (retirable_on n v.seen log b.found.seen b.found.history core (i.knows.duties n has));
        };
        board = subst (λ (l : List Signed). stands (opening_of g) t.value l) (sym (ap (λ (z : View T). core_at z.seen) b.is ∙ (core_quiet log v.number e refl ∙ core))) i.board;
      }

  -- room was found, and then a request was begun
  pub begun_now : (v u w : View T) (serial : ℕ) (room log : List Signed) → Found v room → begins_in room (state_at room).serial < MAX_BEGINS → u ≡ checking v room → Begins u w serial log → BegunNow v w serial log
  begun_now v u w serial room log r few is b =
      let c : Begins (checking v room) w serial log = subst (λ (z : View T). Begins z w serial log) is b in
      record {
        begins = record {
          found = record {
            history = c.found.history;
            seen = prefix_trans v.seen room log r.seen c.found.seen;
            own = c.found.own;
            own_seen = r.own_seen;
            owes = c.found.owes;
            in_turn = λ has. c.found.in_turn has ∙ r.in_turn has;
          };
          is = c.is;
          current = c.current;
          history = c.history;
        };
        room = room;
        after = r.seen;
        before = c.found.seen;
        few = few;
      }

  pub in_turn_then : (v : View T) (log : List Signed) → Found v log → v.turn ≡ true → FoundInTurn v log
  in_turn_then v log f has = record { found = f; core_is = f.in_turn has }
