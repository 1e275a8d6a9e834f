-- What a pass has after calls in several turns, while its request runs.
use Rattle.std.proofs.Common.{◌≡◌, ℕ, Option, Some, List, ap, ◌∙◌}
use Rattle.cd_legal.specs.Owing.{Owes}
use Rattle.cd_legal.specs.Placed.{Placed}
use Rattle.cd_gate.specs.declared.pass.Pass.{Pass}
use Rattle.cd_gate.specs.declared.view.View.{View}
use Rattle.cd_gate.specs.Passes.{view}
use Rattle.cd_life.specs.declared.board.Board.{Board}
use Rattle.cd_hall.specs.declared.hall.Hall.{Hall}
use Rattle.cd_hall.specs.declared.hall.Ticket.{Ticket}
use Rattle.cd_hall.specs.Calls.{IsPassOf}
use Rattle.cd_hall.proofs.Requested.{ticket_stays}
use Rattle.cd_serve.specs.Attempts.{Works}
use Rattle.cd_pair.specs.Passes.{Runs}

-- they leave its ticket and its duties
pub works : {A F B : Type 0} {g : _} (h : Hall A F B g) (p q : Pass (Board A F B g)) (k : ℕ) (t : Ticket A B g) (b d : Option ℕ) (work : List Placed)
    → Runs h p k t b → IsPassOf h q → Works (view p) (view q) work → (view q).draft ≡ d → Runs h q k t d
works {A} {F} {B} {g} h p q k t b d work was pass w draft =
    let ticket : (view q).ticket ≡ Some t.serial = w.ticket ∙ ap (λ (o : Owes). o.ticket) was.has.owes in
    record {
      has = record {
        pass = pass;
        number = w.places.number ∙ was.has.number;
        owes = λ i. record { ticket = ticket i; draft = draft i };
        duties = w.duties ∙ was.has.duties;
        root = λ first. (ap (λ (z : View (Board A F B g)). z.made) w.places.same ∙ (was.has.root first).0, ap (λ (z : View (Board A F B g)). z.joined) w.places.same ∙ (was.has.root first).1);
      };
      ticket = ticket_stays (view p) (view q) t was.ticket w.places.seen w.places.history w.ticket;
    }
