use Rattle.std.proofs.Common.{ap, ◌∙◌}
use Rattle.cd_gate.specs.Passes.{view}
use Rattle.cd_life.specs.Origins.{change_of}
use Rattle.cd_life.specs.Standing.{Stood}
use Rattle.cd_hall.proofs.InHand.{publish_low}
use Rattle.cd_hall.proofs.Settled.{settled_board, p_stopped, p_settles, p_calm, settled_history}
use Rattle.cd_hall.proofs.publishing.publish_next.Goals as goal

pub stop_superseded-requires-clause-superseded : goal.stop_superseded-requires-clause-superseded
stop_superseded-requires-clause-superseded g c κs within = publish_low (view c.args.pass.now) (view c.note_publish-begins.new.pass) c.args.successor.draft.left.number c.args.successor.serial (change_of c.args.successor.origin) c.note_publish-begins.ensures.goes

pub settle_step-requires-clause-stopped : goal.settle_step-requires-clause-stopped
settle_step-requires-clause-stopped g c =
    p_stopped (view c.args.pass.now) (view c.note_publish-begins.new.pass) (view c.stop_superseded.new.pass) c.args.successor.draft.left.number c.args.successor.serial (change_of c.args.successor.origin) c.requires.turn.knows c.requires.left c.requires.follows.current
    c.note_publish-begins.ensures.goes c.stop_superseded.ensures.stops

pub returns-clause-board : goal.returns-clause-board
returns-clause-board g c =
    settled_board (Stood g.F.Fixtures.calls g.F.Fixtures.faults g.M.ModuleSet.plan g.M.ModuleSet.change) c.args.gate.now c.stop_superseded.new.turn c.settle_step.new.turn c.stop_superseded.new.pass c.settle_step.new.pass c.args.successor.serial c.settle_step.result c.stop_superseded.ensures.turn c.settle_step.ensures.same c.settle_step.ensures.settles.3

pub returns-clause-settles : goal.returns-clause-settles
returns-clause-settles g c =
    let t = c.settle_step.ensures.settles in
    p_settles (view c.args.pass.now) (view c.note_publish-begins.new.pass) (view c.stop_superseded.new.pass) c.args.successor.draft.left.number c.args.successor.serial (change_of c.args.successor.origin) c.requires.turn.knows c.requires.left c.requires.follows.current
    c.note_publish-begins.ensures.goes c.stop_superseded.ensures.stops (view c.settle_step.new.pass) c.settle_step.result t.0 t.1 c.note_publish-begins.ensures.ticket t.2 t.3

pub returns-clause-calm : goal.returns-clause-calm
returns-clause-calm g c =
    let t = c.settle_step.ensures.settles in
    p_calm (view c.args.pass.now) (view c.note_publish-begins.new.pass) (view c.stop_superseded.new.pass) c.args.successor.draft.left.number c.args.successor.serial (change_of c.args.successor.origin) c.requires.turn.knows c.requires.left c.requires.follows.current
    c.note_publish-begins.ensures.goes c.stop_superseded.ensures.stops (view c.settle_step.new.pass) c.settle_step.result t.0 t.1 c.note_publish-begins.ensures.ticket t.2 t.3 c.requires.follows.settled

pub returns-clause-checked : goal.returns-clause-checked
returns-clause-checked g c = ap (λ z. z.checked) c.settle_step.ensures.settles.3 ∙ (c.stop_superseded.ensures.stops.2.checked ∙ c.note_publish-begins.ensures.goes.checked)

pub returns-clause-history : goal.returns-clause-history
returns-clause-history g c = settled_history (view c.stop_superseded.new.pass) (view c.settle_step.new.pass) c.args.successor.serial c.settle_step.result c.stop_superseded.ensures.turn.knows c.settle_step.ensures.settles.3
