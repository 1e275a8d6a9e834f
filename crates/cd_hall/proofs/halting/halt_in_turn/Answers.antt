use Rattle.std.proofs.Common.{◌∙◌, ap, sym, subst, ℕ, ◌≤◌}
use Rattle.cd_legal.specs.declared.limits.TheConstants.{LAST_SERIAL}
use Rattle.cd_legal.specs.Laws.{core_at}
use Rattle.cd_gate.specs.Passes.{view, opening_of}
use Rattle.cd_life.specs.Standing.{Stood}
use Rattle.cd_hall.proofs.Bare.{serial_core, halted_core}
use Rattle.cd_hall.proofs.InHand.{halt_low}
use Rattle.cd_hall.proofs.Settled.{settled_board, h_stopped, h_halt, h_quiet, h_left_then, settled_history}
use Rattle.cd_hall.proofs.halting.halt_in_turn.Goals as goal

pub note_halt-begins-requires-clause-running : goal.note_halt-begins-requires-clause-running
note_halt-begins-requires-clause-running g c κs within = sym (halted_core (view c.args.pass.now).seen) ∙ c.requires.running

pub note_halt-begins-requires-clause-current : goal.note_halt-begins-requires-clause-current
note_halt-begins-requires-clause-current g c κs within = ((c.serial-serial.ensures.state (opening_of c.args.gate.now) (core_at (view c.args.pass.now).seen) c.requires.turn.board ∙ serial_core (view c.args.pass.now).seen), subst (λ (n : ℕ). n ≤ LAST_SERIAL) (sym (c.serial-serial.ensures.state (opening_of c.args.gate.now) (core_at (view c.args.pass.now).seen) c.requires.turn.board)) c.requires.room)

pub stop_superseded-requires-clause-superseded : goal.stop_superseded-requires-clause-superseded
stop_superseded-requires-clause-superseded g c κs within = halt_low (view c.args.pass.now) (view c.note_halt-begins.new.pass) c.serial-serial.result c.note_halt-begins.ensures.goes

pub settle_step-due-requires-clause-stopped : goal.settle_step-due-requires-clause-stopped
settle_step-due-requires-clause-stopped g c = h_stopped (view c.args.pass.now) (view c.note_halt-begins.new.pass) (view c.stop_superseded.new.pass) c.serial-serial.result c.requires.turn.knows c.requires.left (c.serial-serial.ensures.state (opening_of c.args.gate.now) (core_at (view c.args.pass.now).seen) c.requires.turn.board ∙ serial_core (view c.args.pass.now).seen) c.note_halt-begins.ensures.goes c.stop_superseded.ensures.stops

pub returns-clause-board : goal.returns-clause-board
returns-clause-board g c =
    settled_board (Stood g.F.Fixtures.calls g.F.Fixtures.faults g.M.ModuleSet.plan g.M.ModuleSet.change) c.args.gate.now c.stop_superseded.new.turn c.settle_step-due.new.turn c.stop_superseded.new.pass c.settle_step-due.new.pass c.serial-serial.result c.settle_step-due.result c.stop_superseded.ensures.turn c.settle_step-due.ensures.same c.settle_step-due.ensures.settles.3

pub returns-clause-halts : goal.returns-clause-halts
returns-clause-halts g c =
    let t = c.settle_step-due.ensures.settles in
    h_halt (view c.args.pass.now) (view c.note_halt-begins.new.pass) (view c.stop_superseded.new.pass) c.serial-serial.result c.requires.turn.knows c.requires.left (c.serial-serial.ensures.state (opening_of c.args.gate.now) (core_at (view c.args.pass.now).seen) c.requires.turn.board ∙ serial_core (view c.args.pass.now).seen) c.note_halt-begins.ensures.goes c.stop_superseded.ensures.stops (view c.settle_step-due.new.pass) c.settle_step-due.result t.0 t.1 t.2 t.3 _ c.duty_of.ensures (sym (halted_core (view c.args.pass.now).seen) ∙ c.requires.running)

pub returns-clause-settled : goal.returns-clause-settled
returns-clause-settled g c =
    let t = c.settle_step-due.ensures.settles in
    h_quiet (view c.args.pass.now) (view c.note_halt-begins.new.pass) (view c.stop_superseded.new.pass) c.serial-serial.result c.requires.turn.knows c.requires.left (c.serial-serial.ensures.state (opening_of c.args.gate.now) (core_at (view c.args.pass.now).seen) c.requires.turn.board ∙ serial_core (view c.args.pass.now).seen) c.note_halt-begins.ensures.goes c.stop_superseded.ensures.stops (view c.settle_step-due.new.pass) c.settle_step-due.result t.0 t.1 t.2 t.3

pub returns-clause-left : goal.returns-clause-left
returns-clause-left g c =
    let t = c.settle_step-due.ensures.settles in
    h_left_then (view c.args.pass.now) (view c.note_halt-begins.new.pass) (view c.stop_superseded.new.pass) c.serial-serial.result c.requires.turn.knows c.requires.left (c.serial-serial.ensures.state (opening_of c.args.gate.now) (core_at (view c.args.pass.now).seen) c.requires.turn.board ∙ serial_core (view c.args.pass.now).seen) c.note_halt-begins.ensures.goes c.stop_superseded.ensures.stops (view c.settle_step-due.new.pass) c.settle_step-due.result t.0 t.1 t.2 t.3

pub returns-clause-checked : goal.returns-clause-checked
returns-clause-checked g c = ap (λ z. z.checked) c.settle_step-due.ensures.settles.3 ∙ (c.stop_superseded.ensures.stops.2.checked ∙ c.note_halt-begins.ensures.goes.checked)

pub returns-clause-history : goal.returns-clause-history
returns-clause-history g c = settled_history (view c.stop_superseded.new.pass) (view c.settle_step-due.new.pass) c.serial-serial.result c.settle_step-due.result c.stop_superseded.ensures.turn.knows c.settle_step-due.ensures.settles.3
