use Rattle.std.proofs.Common.{◌∙◌}
use Rattle.cd_gate.specs.Passes.{view}
use Rattle.cd_hall.proofs.Drafted.{draft_in}
use Rattle.cd_hall.proofs.Goes.{ends_plain, leaves}
use Rattle.cd_hall.proofs.Requested.{pass_after, same_checked, same_duties_after, same_unsettled}
use Rattle.cd_hall.proofs.hall.Hall.abandon.Goals as goal

pub abandon_in_turn-removed-requires-clause-draft : goal.abandon_in_turn-removed-requires-clause-draft
abandon_in_turn-removed-requires-clause-draft g c κs within = draft_in (view c.args.pass.now) (view c.take_turn-turn.new.pass) c.args.draft c.take_turn-turn.ensures.same c.take_turn-turn.ensures.draft c.requires.draft

pub leave_turn-requires-clause-turn : goal.leave_turn-requires-clause-turn
leave_turn-requires-clause-turn g c = c.abandon_in_turn-removed.ensures.turn.turn

pub leave_turn-requires-clause-settled : goal.leave_turn-requires-clause-settled
leave_turn-requires-clause-settled g c = same_unsettled (view c.args.pass.now) (view c.take_turn-turn.new.pass) (view c.abandon_in_turn-removed.new.pass) c.take_turn-turn.ensures.same c.abandon_in_turn-removed.ensures.calm.unsettled ∙ c.requires.pass.idle.3

pub leave_turn-requires-clause-board : goal.leave_turn-requires-clause-board
leave_turn-requires-clause-board g c = c.abandon_in_turn-removed.ensures.turn.board

pub leave_turn-requires-clause-left : goal.leave_turn-requires-clause-left
leave_turn-requires-clause-left g c = c.abandon_in_turn-removed.ensures.calm.left

pub returns-clause-pass : goal.returns-clause-pass
returns-clause-pass g c =
    pass_after c.args.self.now c.leave_turn.new.pass (view c.abandon_in_turn-removed.new.pass) c.leave_turn.ensures.pass c.leave_turn.ensures.seen (same_checked (view c.args.pass.now) (view c.take_turn-turn.new.pass) (view c.abandon_in_turn-removed.new.pass) c.take_turn-turn.ensures.same c.abandon_in_turn-removed.ensures.goes.checked c.requires.pass.unchecked) c.abandon_in_turn-removed.ensures.turn.knows.history

pub returns-clause-spreads : goal.returns-clause-spreads
returns-clause-spreads g c =
    let l = leaves (view c.args.pass.now) (view c.take_turn-turn.new.pass) (view c.abandon_in_turn-removed.new.pass) (view c.abandon_in_turn-removed.new.pass) (view c.leave_turn.new.pass) c.take_turn-turn.ensures.same c.take_turn-turn.ensures.since c.requires.pass.idle.1 (ends_plain (view c.args.pass.now) (view c.take_turn-turn.new.pass) (view c.abandon_in_turn-removed.new.pass) (view c.leave_turn.new.pass) c.requires.pass.idle.0.5 c.abandon_in_turn-removed.ensures.turn.turn.0.5 c.take_turn-turn.ensures.same c.abandon_in_turn-removed.ensures.calm.unsettled c.leave_turn.ensures.seen) _ c.abandon_in_turn-removed.ensures.goes in
    (l.found, l.spread)

pub returns-clause-duties : goal.returns-clause-duties
returns-clause-duties g c = same_duties_after (view c.args.pass.now) (view c.take_turn-turn.new.pass) (view c.abandon_in_turn-removed.new.pass) (view c.leave_turn.new.pass) c.take_turn-turn.ensures.same c.abandon_in_turn-removed.ensures.calm.duties c.leave_turn.ensures.seen
