use Rattle.std.proofs.Common.{sym, ap, subst, ◌∙◌}
use Rattle.cd_gate.specs.Duties.{without_number}
use Rattle.cd_gate.specs.Passes.{view}
use Rattle.cd_hall.specs.Spread.{Spread}
use Rattle.cd_hall.proofs.Bare.{block_alike}
use Rattle.cd_hall.proofs.Goes.{ends_plain, leaves}
use Rattle.cd_hall.proofs.Requested.{duty_in, pass_after, same_checked, same_unsettled}
use Rattle.cd_hall.proofs.hall.Hall.retire.Goals as goal

pub retire_in_turn-removed-requires-clause-duty : goal.retire_in_turn-removed-requires-clause-duty
retire_in_turn-removed-requires-clause-duty g c κs within = duty_in (view c.args.pass.now) (view c.take_turn-turn.new.pass) c.args.duty.serial c.take_turn-turn.ensures.same c.requires.duty

pub leave_turn-requires-clause-turn : goal.leave_turn-requires-clause-turn
leave_turn-requires-clause-turn g c = c.retire_in_turn-removed.ensures.turn.turn

pub leave_turn-requires-clause-settled : goal.leave_turn-requires-clause-settled
leave_turn-requires-clause-settled g c = same_unsettled (view c.args.pass.now) (view c.take_turn-turn.new.pass) (view c.retire_in_turn-removed.new.pass) c.take_turn-turn.ensures.same c.retire_in_turn-removed.ensures.unsettled ∙ c.requires.pass.idle.3

pub leave_turn-requires-clause-board : goal.leave_turn-requires-clause-board
leave_turn-requires-clause-board g c = c.retire_in_turn-removed.ensures.turn.board

pub leave_turn-requires-clause-left : goal.leave_turn-requires-clause-left
leave_turn-requires-clause-left g c = c.retire_in_turn-removed.ensures.left

pub returns-clause-pass : goal.returns-clause-pass
returns-clause-pass g c =
    pass_after c.args.self.now c.leave_turn.new.pass (view c.retire_in_turn-removed.new.pass) c.leave_turn.ensures.pass c.leave_turn.ensures.seen (same_checked (view c.args.pass.now) (view c.take_turn-turn.new.pass) (view c.retire_in_turn-removed.new.pass) c.take_turn-turn.ensures.same c.retire_in_turn-removed.ensures.goes.checked c.requires.pass.unchecked) c.retire_in_turn-removed.ensures.turn.knows.history

pub returns-clause-spreads : goal.returns-clause-spreads
returns-clause-spreads g c =
    let l = leaves (view c.args.pass.now) (view c.take_turn-turn.new.pass) (view c.retire_in_turn-removed.new.pass) (view c.retire_in_turn-removed.new.pass) (view c.leave_turn.new.pass) c.take_turn-turn.ensures.same c.take_turn-turn.ensures.since c.requires.pass.idle.1 (ends_plain (view c.args.pass.now) (view c.take_turn-turn.new.pass) (view c.retire_in_turn-removed.new.pass) (view c.leave_turn.new.pass) c.requires.pass.idle.0.5 c.retire_in_turn-removed.ensures.turn.turn.0.5 c.take_turn-turn.ensures.same c.retire_in_turn-removed.ensures.unsettled c.leave_turn.ensures.seen) _ c.retire_in_turn-removed.ensures.goes in
    (l.found, subst (λ es. Spread (view c.args.pass.now) (view c.leave_turn.new.pass) l.found es) (sym (block_alike l.found (view c.take_turn-turn.new.pass).seen l.found_core c.args.duty.serial)) l.spread)

pub returns-clause-duties : goal.returns-clause-duties
returns-clause-duties g c =
    ap (λ z. z.duties) c.leave_turn.ensures.seen ∙ (c.retire_in_turn-removed.ensures.duties ∙ ap (λ z. without_number c.args.duty.serial z.duties) c.take_turn-turn.ensures.same)
