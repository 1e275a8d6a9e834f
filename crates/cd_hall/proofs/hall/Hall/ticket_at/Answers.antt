use Rattle.std.proofs.Common.{refl}
use Rattle.cd_legal.specs.Laws.{core_at}
use Rattle.cd_gate.specs.Passes.{view, opening_of}
use Rattle.cd_hall.proofs.Cached.{ticket_in, shares_open, has_shared, is_halt_then}
use Rattle.cd_hall.proofs.Goes.{none_made}
use Rattle.cd_hall.proofs.hall.Hall.ticket_at.Goals as goal

pub share-shared-requires-after_bounds : goal.share-shared-requires-after_bounds
share-shared-requires-after_bounds g c κs within =
    shares_open g.F.Fixtures.calls g.F.Fixtures.faults g.M.ModuleSet.plan g.M.ModuleSet.change c.args.self.now.gate c.take_turn-turn.result c.take_turn-turn.new.pass c.take_turn-turn.ensures.turn
    c.args.serial (ticket_in (view c.args.pass.now) (view c.take_turn-turn.new.pass) c.args.serial c.take_turn-turn.ensures.same c.requires.running)

pub returns-in-Ok-clause-makes : goal.returns-in-Ok-clause-makes
returns-in-Ok-clause-makes g c = (
  (view c.take_turn-turn.new.pass).seen,
  none_made (view c.args.pass.now) (view c.take_turn-turn.new.pass) (view c.take_turn-turn.new.pass) (view c.leave_turn.new.pass) c.take_turn-turn.ensures.since c.take_turn-turn.ensures.same refl c.requires.pass.idle.1 c.requires.pass.idle.0.5
      c.take_turn-turn.ensures.turn.turn.0.5 c.leave_turn.ensures.seen,
)

pub returns-in-Ok-clause-ticket : goal.returns-in-Ok-clause-ticket
returns-in-Ok-clause-ticket g c = (
  refl,
  has_shared g.F.Fixtures.calls g.F.Fixtures.faults g.M.ModuleSet.plan g.M.ModuleSet.change c.args.self.now.gate c.take_turn-turn.result c.take_turn-turn.new.pass c.take_turn-turn.ensures.turn
      c.args.serial (ticket_in (view c.args.pass.now) (view c.take_turn-turn.new.pass) c.args.serial c.take_turn-turn.ensures.same c.requires.running) (record { serial = c.args.serial; share = c.in-Ok.share }) (view c.leave_turn.new.pass) refl c.leave_turn.ensures.seen c.in-Ok.ensures.state,
)

pub returns-in-Err-clause-makes : goal.returns-in-Err-clause-makes
returns-in-Err-clause-makes g c = (
  (view c.take_turn-turn.new.pass).seen,
  none_made (view c.args.pass.now) (view c.take_turn-turn.new.pass) (view c.take_turn-turn.new.pass) (view c.leave_turn.new.pass) c.take_turn-turn.ensures.since c.take_turn-turn.ensures.same refl c.requires.pass.idle.1 c.requires.pass.idle.0.5
      c.take_turn-turn.ensures.turn.turn.0.5 c.leave_turn.ensures.seen,
)

pub returns-in-Err-clause-halted : goal.returns-in-Err-clause-halted
returns-in-Err-clause-halted g c =
    let o = opening_of c.args.self.now.gate in
    let core = core_at (view c.take_turn-turn.new.pass).seen in
    let h = c.take_turn-turn.ensures.turn in
    is_halt_then g.F.Fixtures.calls g.F.Fixtures.faults g.M.ModuleSet.plan g.M.ModuleSet.change c.args.self.now.gate c.take_turn-turn.result c.take_turn-turn.new.pass h
    c.args.serial (ticket_in (view c.args.pass.now) (view c.take_turn-turn.new.pass) c.args.serial c.take_turn-turn.ensures.same c.requires.running) (view c.leave_turn.new.pass) c.halted.result c.is_halt-halted.result c.serial.result c.leave_turn.ensures.seen (c.halted.ensures.state o core h.board)
    (c.serial.ensures.state o core h.board) c.is_halt-halted.ensures
