-- Two passes, from a new gate to its end.
use Rattle.std.proofs.Common.{◌≡◌, ℕ, zero, suc, ◌+◌, Bool, true, false, cond, List, [], ◌∷◌, length, Some, None, refl, sym, ap, ◌∙◌, subst, arith, eq-eqb}
use mathlib.Core.Option.{some, some-injective, some-ne-none}
use lib.ListN.{get_elem?}
use Rattle.cd_legal.specs.declared.state.OpenTicket.{OpenTicket}
use Rattle.cd_legal.specs.declared.state.State.{State}
use Rattle.cd_legal.specs.Legal.{state_at, may_retire}
use Rattle.cd_legal.specs.Owing.{Owes}
use Rattle.cd_legal.specs.State.{ticket_of}
use Rattle.cd_legal.proofs.Cores.{bare-core}
use Rattle.cd_legal.proofs.Owed.{owed-ticket}
use Rattle.cd_gate.specs.declared.gate.Gate.{Gate}
use Rattle.cd_gate.specs.declared.pass.Pass.{Pass}
use Rattle.cd_gate.specs.Passes.{view, IsIdleOf}
use Rattle.cd_gate.specs.Ends.{IsRowOf, IsFree, AreFree, AreNew, Closes}
use Rattle.cd_gate_cases.specs.declared.board.Board.{Board}
use Rattle.cd_gate_cases.specs.declared.board.Board.TheVariants.{Running, Halted, Retired}
use Rattle.cd_gate_cases.specs.Boards.{state_on, StandsFor}
use Rattle.cd_gate_cases.specs.Passes.{begins, Has, HasSeenHalt, Met}
use Rattle.cd_fixed.proofs.Halted.{halted-stays}
use Rattle.cd_gate_cases.proofs.Turns.{halted_is}

-- ---- passes

-- the two passes are a row
pub row_of : (g : Gate Board) (p q : Pass Board) → Has g p 0 None [] → Has g q 1 None [] → IsRowOf g (p ∷ q ∷ [])
row_of g p q one two = record {
  some_pass = omega arith;
  each = each;
  root = λ r is. subst (λ (z : Pass Board). ((view z).made ≡ 2) × ((view z).joined ≡ [])) (some-injective p r is) (one.root refl);
}
  where
    each : (i : ℕ) (r : Pass Board) → get_elem? (p ∷ q ∷ []) i ≡ some r → IsIdleOf g r × ((view r).number ≡ i)
    each zero r is = subst (λ (z : Pass Board). IsIdleOf g z × ((view z).number ≡ 0)) (some-injective p r is) (one.idle, one.number)
    each (suc zero) r is = subst (λ (z : Pass Board). IsIdleOf g z × ((view z).number ≡ 1)) (some-injective q r is) (two.idle, two.number)
    each (suc (suc i)) r is = absurd (some-ne-none r (sym is))

-- they owe nothing
pub free_of : (g : Gate Board) (p q : Pass Board) → Has g p 0 None [] → Has g q 1 None [] → AreFree (p ∷ q ∷ [])
free_of g p q one two = record { each = each }
  where
    each : (i : ℕ) (r : Pass Board) → get_elem? (p ∷ q ∷ []) i ≡ some r → IsFree r
    each zero r is = subst (λ (z : Pass Board). IsFree z) (some-injective p r is) (one.owes, one.duties)
    each (suc zero) r is = subst (λ (z : Pass Board). IsFree z) (some-injective q r is) (two.owes, two.duties)
    each (suc (suc i)) r is = absurd (some-ne-none r (sym is))

-- how the two passes of a new gate begin
pub record Begins (g : Gate Board) (p q : Pass Board) : Type 0 where
  pub first : Has g p 0 None []
  pub second : Has g q 1 None []
  pub own : (view p).mine ≡ []
  pub others : (view q).mine ≡ []

pub begins_of : (g : Gate Board) (ps : List (Pass Board)) (p q : Pass Board) → IsRowOf g ps × AreNew ps × (length ps ≡ 2) → ps ≡ p ∷ q ∷ [] → Begins g p q
begins_of g ps p q f is =
    let row = subst (λ l. IsRowOf g l) is f.0 in
    let new = subst (λ l. AreNew l) is f.1 in
    record {
      first = record {
        idle = (row.each 0 p refl).0;
        number = (row.each 0 p refl).1;
        owes = (new.each 0 p refl).2.0;
        duties = (new.each 0 p refl).2.1;
        root = λ zero. row.root p refl;
      };
      second = record {
        idle = (row.each 1 q refl).0;
        number = (row.each 1 q refl).1;
        owes = (new.each 1 q refl).2.0;
        duties = (new.each 1 q refl).2.1;
        root = λ zero. absurd (omega (arith, zero));
      };
      own = (new.each 0 p refl).1;
      others = (new.each 1 q refl).1;
    }

-- as many more where there were none
pub from_none : (a b n : ℕ) → a ≡ b + n → b ≡ 0 → a ≡ n
from_none a b n more is = omega arith

-- ---- the end

-- where nobody has a ticket none is open
none_open : (ts : List OpenTicket) → ((k : ℕ) → ticket_of k ts ≡ None) → ts ≡ []
none_open [] free = refl
none_open (t ∷ ts) free =
    absurd (let h : Some t.serial ≡ None = ap (λ (b : Bool). cond b (Some t.serial) (ticket_of t.caller ts)) (sym (eq-eqb t.caller t.caller refl)) ∙ free t.caller in cc)

-- the host is halted, and nothing may be retired
at_end : (b : Board) → (state_on b).halted ≡ true → may_retire (state_on b) 0 ≡ false → b ≡ Retired
at_end Running had none = absurd (let h : false ≡ true = had in cc)
at_end Halted had none = absurd (let h : true ≡ false = none in cc)
at_end Retired had none = refl

-- two passes that have begun so many requests meet
pub meets : (o : Board) (p q : Pass Board) (b : Board) (n : ℕ) → begins (view p).mine ≡ n → begins (view q).mine ≡ n → HasSeenHalt p
    → Closes (λ opening board log. StandsFor board log) o (p ∷ q ∷ []) b → Met b n
meets o p q b n first second had c =
    let one = c.each 0 p refl in
    let two = c.each 1 q refl in
    let s : State = state_at c.log in
    let free : s.tickets ≡ [] = none_open s.tickets (λ k. sym (owed-ticket c.log k c.history) ∙ ap (λ (w : Owes). w.ticket) (c.owes k)) in
    -- the state has no tickets, so it is that of the board
    let whole : s ≡ state_on b = (λ i. record s { tickets = free i }) ∙ (bare-core c.log ∙ c.board) in
    record {
      log = c.log;
      history = c.history;
      board = c.board;
      ended = at_end b (sym (halted_is b c.log c.board) ∙ halted-stays (view p).seen c.log one.0 had) (ap (λ (z : State). may_retire z 0) (sym whole) ∙ c.due 0);
      first = ap begins one.1 ∙ first;
      second = ap begins two.1 ∙ second;
    }
