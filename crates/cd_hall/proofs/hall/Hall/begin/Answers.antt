use Rattle.std.proofs.Common.{◌≡◌, ◌∷◌, List, [], sym, ap, ◌∙◌}
use Rattle.cd_legal.specs.declared.entry.Entry.TheVariants.{Begin}
use Rattle.cd_legal.specs.declared.entry.Signed.{Signed}
use Rattle.cd_legal.specs.Legal.{state_at}
use Rattle.cd_legal.specs.Placed.{Placed}
use Rattle.cd_gate.specs.Passes.{view}
use Rattle.cd_hall.specs.Requests.{BegunNow, HasLooked}
use Rattle.cd_hall.specs.Tickets.{IsTicketOf, HasBegun}
use Rattle.cd_hall.specs.Turned.{Turned, Makes}
use Rattle.cd_hall.proofs.Goes.{leaves_none, looked_on}
use Rattle.cd_hall.proofs.Told.{if_ok, if_ok_two, on_err}
use Rattle.cd_hall.proofs.Requested.{free_in, begin_turned, has_begun, pass_after, same_duties_after, same_unsettled, ticket_after}
use Rattle.cd_hall.proofs.hall.Hall.begin.Goals as goal

pub ticket_in_turn-begun-requires-clause-free : goal.ticket_in_turn-begun-requires-clause-free
ticket_in_turn-begun-requires-clause-free g c κs within = free_in (view c.args.pass.now) (view c.take_turn-turn.new.pass) c.take_turn-turn.ensures.same c.requires.free

pub leave_turn-requires-clause-turn : goal.leave_turn-requires-clause-turn
leave_turn-requires-clause-turn g c = c.ticket_in_turn-begun.ensures.turn.turn

pub leave_turn-requires-clause-settled : goal.leave_turn-requires-clause-settled
leave_turn-requires-clause-settled g c = same_unsettled (view c.args.pass.now) (view c.take_turn-turn.new.pass) (view c.ticket_in_turn-begun.new.pass) c.take_turn-turn.ensures.same c.ticket_in_turn-begun.ensures.calm.unsettled ∙ c.requires.pass.idle.3

pub leave_turn-requires-clause-board : goal.leave_turn-requires-clause-board
leave_turn-requires-clause-board g c = c.ticket_in_turn-begun.ensures.turn.board

pub leave_turn-requires-clause-left : goal.leave_turn-requires-clause-left
leave_turn-requires-clause-left g c = c.ticket_in_turn-begun.ensures.calm.left

pub returns-clause-pass : goal.returns-clause-pass
returns-clause-pass g c =
    pass_after c.args.self.now c.leave_turn.new.pass (view c.ticket_in_turn-begun.new.pass) c.leave_turn.ensures.pass c.leave_turn.ensures.seen
    (c.ticket_in_turn-begun.ensures.unchecked (ap (λ z. z.checked) c.take_turn-turn.ensures.same ∙ c.requires.pass.unchecked)) c.ticket_in_turn-begun.ensures.turn.knows.history

pub returns-clause-begins : goal.returns-clause-begins
returns-clause-begins g c =
    let v = (view c.args.pass.now) in
    let w = (view c.take_turn-turn.new.pass) in
    let x = (view c.ticket_in_turn-begun.new.pass) in
    let y = (view c.leave_turn.new.pass) in
    let same = c.take_turn-turn.ensures.same in
    if_ok (λ ticket. (log : List Signed) × BegunNow w x ticket.serial log)
    (λ ticket. (found : List Signed) × Turned v y found (Begin v.number ticket.serial ∷ []) × (ticket.serial ≡ (state_at found).serial)) c.ticket_in_turn-begun.result
    (λ ticket has. (
      has.0,
      begin_turned v w x y ticket.serial has.0 c.take_turn-turn.ensures.since same has.1.begins c.requires.pass.idle.1 (ap (λ z. z.checked) has.1.begins.is ∙ sym c.requires.pass.unchecked)
          (c.ticket_in_turn-begun.ensures.turn.turn.0.5 ∙ sym c.requires.pass.idle.0.5) (same_unsettled v w x same c.ticket_in_turn-begun.ensures.calm.unsettled) c.leave_turn.ensures.seen,
      has.1.begins.current,
    )) c.ticket_in_turn-begun.ensures.begun

pub returns-clause-ticket : goal.returns-clause-ticket
returns-clause-ticket g c =
    if_ok (λ ticket. IsTicketOf (view c.ticket_in_turn-begun.new.pass) ticket) (λ ticket. IsTicketOf (view c.leave_turn.new.pass) ticket) c.ticket_in_turn-begun.result
    (λ ticket has. ticket_after (view c.ticket_in_turn-begun.new.pass) (view c.leave_turn.new.pass) ticket c.leave_turn.ensures.seen has) c.ticket_in_turn-begun.ensures.ticket

pub returns-clause-begun : goal.returns-clause-begun
returns-clause-begun g c =
    let v = (view c.args.pass.now) in
    let w = (view c.take_turn-turn.new.pass) in
    let x = (view c.ticket_in_turn-begun.new.pass) in
    let y = (view c.leave_turn.new.pass) in
    let same = c.take_turn-turn.ensures.same in
    if_ok_two (λ ticket. (log : List Signed) × BegunNow w x ticket.serial log) (λ ticket. IsTicketOf x ticket) (λ ticket. (begin : Placed) × HasBegun v y ticket begin) c.ticket_in_turn-begun.result
    (λ ticket has is.
    has_begun v w x y has.0 ticket
    (begin_turned v w x y ticket.serial has.0 c.take_turn-turn.ensures.since same has.1.begins c.requires.pass.idle.1 (ap (λ z. z.checked) has.1.begins.is ∙ sym c.requires.pass.unchecked)
    (c.ticket_in_turn-begun.ensures.turn.turn.0.5 ∙ sym c.requires.pass.idle.0.5) (same_unsettled v w x same c.ticket_in_turn-begun.ensures.calm.unsettled) c.leave_turn.ensures.seen)
    c.take_turn-turn.ensures.since.seen has.1 (ticket_after x y ticket c.leave_turn.ensures.seen is))
    c.ticket_in_turn-begun.ensures.begun c.ticket_in_turn-begun.ensures.ticket

pub returns-clause-err : goal.returns-clause-err
returns-clause-err g c =
    let v = (view c.args.pass.now) in
    let w = (view c.take_turn-turn.new.pass) in
    let x = (view c.ticket_in_turn-begun.new.pass) in
    let y = (view c.leave_turn.new.pass) in
    let same = c.take_turn-turn.ensures.same in
    on_err (HasLooked w x) (Makes v y (λ s. [])) c.ticket_in_turn-begun.result
    (λ l. (
      l.found,
      leaves_none v x y l.found (looked_on v w x l.found c.take_turn-turn.ensures.since l.since) c.requires.pass.idle.1 (l.checked ∙ ap (λ z. z.checked) same)
          (c.ticket_in_turn-begun.ensures.turn.turn.0.5 ∙ sym c.requires.pass.idle.0.5) (same_unsettled v w x same c.ticket_in_turn-begun.ensures.calm.unsettled) c.leave_turn.ensures.seen,
    )) c.ticket_in_turn-begun.ensures.err

pub returns-clause-duties : goal.returns-clause-duties
returns-clause-duties g c = same_duties_after (view c.args.pass.now) (view c.take_turn-turn.new.pass) (view c.ticket_in_turn-begun.new.pass) (view c.leave_turn.new.pass) c.take_turn-turn.ensures.same c.ticket_in_turn-begun.ensures.calm.duties c.leave_turn.ensures.seen
