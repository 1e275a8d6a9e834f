use Rattle.std.proofs.Common.{◌≡◌, ◌∷◌, [], ◌∙◌}
use Rattle.cd_legal.specs.declared.entry.Entry.TheVariants.{Draft}
use Rattle.cd_gate.specs.Passes.{view}
use Rattle.cd_hall.specs.Drafts.{IsDraftOf}
use Rattle.cd_hall.specs.GoesOn.{GoesOn}
use Rattle.cd_hall.specs.Turned.{Makes}
use Rattle.cd_hall.proofs.Goes.{ends_plain, leaves_one, none_made}
use Rattle.cd_hall.proofs.Told.{if_ok, on_err}
use Rattle.cd_hall.proofs.Requested.{no_draft_in, pass_after, same_checked, same_duties_after, same_unsettled}
use Rattle.cd_hall.proofs.Drafted.{draft_after}
use Rattle.cd_hall.proofs.hall.Hall.draft.Goals as goal

pub draft_in_turn-drafted-requires-clause-free : goal.draft_in_turn-drafted-requires-clause-free
draft_in_turn-drafted-requires-clause-free g c κs within = no_draft_in (view c.args.pass.now) (view c.take_turn-turn.new.pass) c.take_turn-turn.ensures.same c.requires.free

pub leave_turn-requires-clause-turn : goal.leave_turn-requires-clause-turn
leave_turn-requires-clause-turn g c = c.draft_in_turn-drafted.ensures.turn.turn

pub leave_turn-requires-clause-settled : goal.leave_turn-requires-clause-settled
leave_turn-requires-clause-settled g c = same_unsettled (view c.args.pass.now) (view c.take_turn-turn.new.pass) (view c.draft_in_turn-drafted.new.pass) c.take_turn-turn.ensures.same c.draft_in_turn-drafted.ensures.calm.unsettled ∙ c.requires.pass.idle.3

pub leave_turn-requires-clause-board : goal.leave_turn-requires-clause-board
leave_turn-requires-clause-board g c = c.draft_in_turn-drafted.ensures.turn.board

pub leave_turn-requires-clause-left : goal.leave_turn-requires-clause-left
leave_turn-requires-clause-left g c = c.draft_in_turn-drafted.ensures.calm.left

pub returns-clause-pass : goal.returns-clause-pass
returns-clause-pass g c =
    pass_after c.args.self.now c.leave_turn.new.pass (view c.draft_in_turn-drafted.new.pass) c.leave_turn.ensures.pass c.leave_turn.ensures.seen (same_checked (view c.args.pass.now) (view c.take_turn-turn.new.pass) (view c.draft_in_turn-drafted.new.pass) c.take_turn-turn.ensures.same c.draft_in_turn-drafted.ensures.checked c.requires.pass.unchecked) c.draft_in_turn-drafted.ensures.turn.knows.history

pub returns-clause-made : goal.returns-clause-made
returns-clause-made g c =
    let v = (view c.args.pass.now) in
    let w = (view c.take_turn-turn.new.pass) in
    let x = (view c.draft_in_turn-drafted.new.pass) in
    let y = (view c.leave_turn.new.pass) in
    if_ok (λ draft. GoesOn w x (Draft draft.left.number c.args.loaded.tree c.args.loaded.plan ∷ [])) (λ draft. Makes v y (λ s. Draft draft.left.number c.args.loaded.tree c.args.loaded.plan ∷ [])) c.draft_in_turn-drafted.result
    (λ draft goes. (goes.found, leaves_one v w x x y c.take_turn-turn.ensures.same c.take_turn-turn.ensures.since c.requires.pass.idle.1 (ends_plain (view c.args.pass.now) (view c.take_turn-turn.new.pass) (view c.draft_in_turn-drafted.new.pass) (view c.leave_turn.new.pass) c.requires.pass.idle.0.5 c.draft_in_turn-drafted.ensures.turn.turn.0.5 c.take_turn-turn.ensures.same c.draft_in_turn-drafted.ensures.calm.unsettled c.leave_turn.ensures.seen) (Draft draft.left.number c.args.loaded.tree c.args.loaded.plan) goes)) c.draft_in_turn-drafted.ensures.goes

pub returns-clause-draft : goal.returns-clause-draft
returns-clause-draft g c =
    if_ok (λ draft. IsDraftOf (view c.draft_in_turn-drafted.new.pass) draft) (λ draft. IsDraftOf (view c.leave_turn.new.pass) draft) c.draft_in_turn-drafted.result
    (λ draft has. draft_after (view c.draft_in_turn-drafted.new.pass) (view c.leave_turn.new.pass) draft c.leave_turn.ensures.seen has) c.draft_in_turn-drafted.ensures.draft

pub returns-clause-err : goal.returns-clause-err
returns-clause-err g c =
    let v = (view c.args.pass.now) in
    let w = (view c.take_turn-turn.new.pass) in
    let x = (view c.draft_in_turn-drafted.new.pass) in
    on_err (x ≡ w) (Makes v (view c.leave_turn.new.pass) (λ s. [])) c.draft_in_turn-drafted.result
    (λ still. (w.seen, none_made v w x (view c.leave_turn.new.pass) c.take_turn-turn.ensures.since c.take_turn-turn.ensures.same still c.requires.pass.idle.1 c.requires.pass.idle.0.5 c.draft_in_turn-drafted.ensures.turn.turn.0.5 c.leave_turn.ensures.seen)) c.draft_in_turn-drafted.ensures.err

pub returns-clause-duties : goal.returns-clause-duties
returns-clause-duties g c = same_duties_after (view c.args.pass.now) (view c.take_turn-turn.new.pass) (view c.draft_in_turn-drafted.new.pass) (view c.leave_turn.new.pass) c.take_turn-turn.ensures.same c.draft_in_turn-drafted.ensures.calm.duties c.leave_turn.ensures.seen
