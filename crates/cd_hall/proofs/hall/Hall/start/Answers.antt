use Rattle.std.proofs.Common.{◌≡◌, ◌∷◌, [], length, sym, subst, ◌∙◌}
use Rattle.cd_gate.specs.Passes.{view, opening_of}
use Rattle.cd_desk.specs.Lefts.{step_at}
use Rattle.cd_hall.specs.Drafts.{held, started_entry}
use Rattle.cd_hall.specs.GoesOn.{GoesOn}
use Rattle.cd_hall.proofs.Goes.{ends_plain, leaves_one}
use Rattle.cd_hall.proofs.Told.{if_told}
use Rattle.cd_hall.proofs.Requested.{pass_after, seen_after, same_checked, same_duties_after, same_unsettled}
use Rattle.cd_hall.proofs.Drafted.{draft_in, draft_after, fault_rose}
use Rattle.cd_hall.proofs.hall.Hall.start.Goals as goal

pub start_in_turn-started-requires-clause-draft : goal.start_in_turn-started-requires-clause-draft
start_in_turn-started-requires-clause-draft g c κs within = record {
  turn = c.take_turn-turn.ensures.turn;
  draft = draft_in (view c.args.pass.now) (view c.take_turn-turn.new.pass) c.args.draft.now c.take_turn-turn.ensures.same c.take_turn-turn.ensures.draft c.requires.draft;
  unfailed = c.requires.unfailed;
  left = c.take_turn-turn.ensures.left;
}

pub leave_turn-requires-clause-turn : goal.leave_turn-requires-clause-turn
leave_turn-requires-clause-turn g c = c.start_in_turn-started.ensures.turn.turn

pub leave_turn-requires-clause-settled : goal.leave_turn-requires-clause-settled
leave_turn-requires-clause-settled g c = same_unsettled (view c.args.pass.now) (view c.take_turn-turn.new.pass) (view c.start_in_turn-started.new.pass) c.take_turn-turn.ensures.same c.start_in_turn-started.ensures.calm.unsettled ∙ c.requires.pass.idle.3

pub leave_turn-requires-clause-board : goal.leave_turn-requires-clause-board
leave_turn-requires-clause-board g c = c.start_in_turn-started.ensures.turn.board

pub leave_turn-requires-clause-left : goal.leave_turn-requires-clause-left
leave_turn-requires-clause-left g c = c.start_in_turn-started.ensures.calm.left

pub returns-clause-pass : goal.returns-clause-pass
returns-clause-pass g c =
    pass_after c.args.self.now c.leave_turn.new.pass (view c.start_in_turn-started.new.pass) c.leave_turn.ensures.pass c.leave_turn.ensures.seen (same_checked (view c.args.pass.now) (view c.take_turn-turn.new.pass) (view c.start_in_turn-started.new.pass) c.take_turn-turn.ensures.same c.start_in_turn-started.ensures.goes.checked c.requires.pass.unchecked) c.start_in_turn-started.ensures.turn.knows.history

pub returns-clause-started : goal.returns-clause-started
returns-clause-started g c =
    let goes = (subst (λ key. GoesOn (view c.take_turn-turn.new.pass) (view c.start_in_turn-started.new.pass) (started_entry (held c.args.draft.now) key ∷ [])) (sym c.failing.ensures.key) c.start_in_turn-started.ensures.goes) in
    (goes.found, leaves_one (view c.args.pass.now) (view c.take_turn-turn.new.pass) (view c.start_in_turn-started.new.pass) (view c.start_in_turn-started.new.pass) (view c.leave_turn.new.pass) c.take_turn-turn.ensures.same c.take_turn-turn.ensures.since c.requires.pass.idle.1 (ends_plain (view c.args.pass.now) (view c.take_turn-turn.new.pass) (view c.start_in_turn-started.new.pass) (view c.leave_turn.new.pass) c.requires.pass.idle.0.5 c.start_in_turn-started.ensures.turn.turn.0.5 c.take_turn-turn.ensures.same c.start_in_turn-started.ensures.calm.unsettled c.leave_turn.ensures.seen) _ goes)

pub returns-clause-cause : goal.returns-clause-cause
returns-clause-cause g c =
    let goes = (subst (λ key. GoesOn (view c.take_turn-turn.new.pass) (view c.start_in_turn-started.new.pass) (started_entry (held c.args.draft.now) key ∷ [])) (sym c.failing.ensures.key) c.start_in_turn-started.ensures.goes) in
    let one = leaves_one (view c.args.pass.now) (view c.take_turn-turn.new.pass) (view c.start_in_turn-started.new.pass) (view c.start_in_turn-started.new.pass) (view c.leave_turn.new.pass) c.take_turn-turn.ensures.same c.take_turn-turn.ensures.since c.requires.pass.idle.1 (ends_plain (view c.args.pass.now) (view c.take_turn-turn.new.pass) (view c.start_in_turn-started.new.pass) (view c.leave_turn.new.pass) c.requires.pass.idle.0.5 c.start_in_turn-started.ensures.turn.turn.0.5 c.take_turn-turn.ensures.same c.start_in_turn-started.ensures.calm.unsettled c.leave_turn.ensures.seen) _ goes in
    fault_rose g.F.Fixtures.calls g.F.Fixtures.faults g.M.ModuleSet.plan g.M.ModuleSet.change (opening_of c.args.self.now.gate) c.take_turn-turn.result.value c.start_in_turn-started.new.turn.value goes.found (view c.take_turn-turn.new.pass).seen (view c.start_in_turn-started.new.pass).seen (view c.leave_turn.new.pass).seen _
    c.failing.result c.start_in_turn-started.result c.take_turn-turn.ensures.turn.board goes.found_core c.start_in_turn-started.ensures.turn.board (seen_after (view c.start_in_turn-started.new.pass) (view c.leave_turn.new.pass) c.leave_turn.ensures.seen) one.is c.failing.ensures.fault c.start_in_turn-started.ensures.cause

pub returns-clause-draft : goal.returns-clause-draft
returns-clause-draft g c = draft_after (view c.start_in_turn-started.new.pass) (view c.leave_turn.new.pass) c.start_in_turn-started.new.draft c.leave_turn.ensures.seen c.start_in_turn-started.ensures.draft

pub returns-clause-step : goal.returns-clause-step
returns-clause-step g c =
    if_told (λ step. step ≡ step_at (held c.start_in_turn-started.new.draft).started (length (held c.start_in_turn-started.new.draft).plan.apps)) c.failing.result c.start_in_turn-started.result c.failing.ensures.ok c.start_in_turn-started.ensures.step

pub returns-clause-duties : goal.returns-clause-duties
returns-clause-duties g c = same_duties_after (view c.args.pass.now) (view c.take_turn-turn.new.pass) (view c.start_in_turn-started.new.pass) (view c.leave_turn.new.pass) c.take_turn-turn.ensures.same c.start_in_turn-started.ensures.calm.duties c.leave_turn.ensures.seen
