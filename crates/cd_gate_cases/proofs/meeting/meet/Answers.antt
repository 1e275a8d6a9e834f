use Rattle.std.proofs.Common.{rules, ◌≡◌, ◌+◌, ◌*◌, List, subst, ap}
use Rattle.cd_gate.specs.declared.pass.Pass.{Pass}
use Rattle.cd_legal.specs.declared.entry.Signed.{Signed}
use Rattle.cd_gate.specs.Passes.{opening_of}
use Rattle.cd_gate.specs.Ends.{Closes}
use Rattle.cd_gate_cases.specs.declared.board.Board.{Board}
use Rattle.cd_gate_cases.specs.Boards.{StandsFor}
use Rattle.cd_gate_cases.specs.Passes.{begins, begun, HasSeenHalt}
use Rattle.cd_gate_cases.proofs.Both.{begins_of, from_none, meets}
use Rattle.cd_gate_cases.proofs.meeting.meet.Goals as goal

pub play_both-played-requires-clause-one : goal.play_both-played-requires-clause-one
play_both-played-requires-clause-one g c κs within = (begins_of c.in-Ok.made.0 c.in-Ok.made.1.items c.take_two-one.result.0 c.take_two-one.result.1 c.in-Ok.ensures.passes c.take_two-one.ensures.two).first

pub play_both-played-requires-clause-two : goal.play_both-played-requires-clause-two
play_both-played-requires-clause-two g c κs within = (begins_of c.in-Ok.made.0 c.in-Ok.made.1.items c.take_two-one.result.0 c.take_two-one.result.1 c.in-Ok.ensures.passes c.take_two-one.ensures.two).second

pub returns-in-Some-Some : goal.returns-in-Some-Some
returns-in-Some-Some g c =
    let p = c.play_both-played.new.one in
    let q = c.play_both-played.new.two in
    let n = c.args.requests in
    let new = begins_of c.in-Ok.made.0 c.in-Ok.made.1.items c.take_two-one.result.0 c.take_two-one.result.1 c.in-Ok.ensures.passes c.take_two-one.ensures.two in
    let one : (begun p ≡ begun c.take_two-one.result.0 + 2 * n) × HasSeenHalt p = search rules in
    let two : begun q ≡ begun c.take_two-one.result.1 + 2 * n = search rules in
    meets (opening_of c.in-Ok.made.0) p q c.close-board.result (2 * n)
    (from_none (begun p) (begun c.take_two-one.result.0) (2 * n) one.0 (ap (λ (l : List Signed). begins l) new.own))
    (from_none (begun q) (begun c.take_two-one.result.1) (2 * n) two (ap (λ (l : List Signed). begins l) new.others)) one.1
    (subst (λ (l : List (Pass Board)). Closes (λ opening board log. StandsFor board log) (opening_of c.in-Ok.made.0) l c.close-board.result) c.put_two.ensures c.close-board.ensures)
