use Rattle.cd_gate.specs.Passes.{view}
use Rattle.cd_hall.proofs.Begun.{in_turn_then}
use Rattle.cd_hall.proofs.Cached.{begun_turn, begun_in_turn}
use Rattle.cd_hall.proofs.requests.begin_in_turn.Goals as goal

pub returns-clause-turn : goal.returns-clause-turn
returns-clause-turn g c =
    begun_turn g.T.Stands.stands c.args.gate.now c.args.turn.now c.args.pass.now c.begin_request.new.pass c.begin_request.result
    c.requires.turn (c.begin_request.ensures.pass.2 c.requires.turn.turn) c.begin_request.ensures.begun c.begin_request.ensures.worn

pub returns-clause-begun : goal.returns-clause-begun
returns-clause-begun g c = begun_in_turn (view c.args.pass.now) (view c.begin_request.new.pass) c.begin_request.result c.requires.turn.turn.1 c.begin_request.ensures.begun

pub returns-clause-worn : goal.returns-clause-worn
returns-clause-worn g c none = let t = c.begin_request.ensures.worn none in (t.0, in_turn_then (view c.args.pass.now) t.0 t.1 c.requires.turn.turn.1, t.2, t.3)
