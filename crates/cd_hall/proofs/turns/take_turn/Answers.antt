use Rattle.std.proofs.Common.{ap, ◌∙◌, slice_get}
use Rattle.cd_legal.specs.Legal.{state_at}
use Rattle.cd_legal.specs.Whole.{nothing_left}
use Rattle.cd_gate.specs.declared.view.View.{View}
use Rattle.cd_gate.specs.Passes.{view, opening_of}
use Rattle.cd_gate.proofs.Staying.{kept}
use Rattle.cd_hall.proofs.Turning.{seen_is, in_turn, room_is, since_taken}
use Rattle.cd_hall.proofs.turns.take_turn.Goals as goal

pub returns-clause-turn : goal.returns-clause-turn
returns-clause-turn g c =
    let f = c.enter.ensures.seen in
    in_turn g.T.Stands.stands c.args.gate.now c.enter.result c.enter.new.pass (view c.args.pass.now) f.0 c.enter.ensures.pass f.1 f.2

pub returns-clause-since : goal.returns-clause-since
returns-clause-since g c =
    let f = c.enter.ensures.seen in
    since_taken g.T.Stands.stands (opening_of c.args.gate.now) c.enter.result.value (view c.args.pass.now) (view c.enter.new.pass) f.0 f.1 f.2

pub returns-clause-same : goal.returns-clause-same
returns-clause-same g c = let f = c.enter.ensures.seen in seen_is (view c.args.pass.now) (view c.enter.new.pass) f.0 f.1

pub returns-clause-left : goal.returns-clause-left
returns-clause-left g c = let f = c.enter.ensures.seen in ap (λ (z : View g.row.T.Denot). nothing_left (state_at z.seen)) f.1 ∙ f.2.left

pub returns-clause-room : goal.returns-clause-room
returns-clause-room g c = let f = c.enter.ensures.seen in room_is (view c.args.pass.now) (view c.enter.new.pass) f.0 f.1 f.2.serials

pub returns-clause-draft : goal.returns-clause-draft
returns-clause-draft g c d has =
    let f = c.enter.ensures.seen in
    ap (λ (z : View g.row.T.Denot). slice_get (state_at z.seen).drafts d) f.1
    ∙ kept (view c.args.pass.now) f.0 d f.2.found has
