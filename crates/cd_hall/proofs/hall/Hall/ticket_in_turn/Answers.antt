use Rattle.std.proofs.Common.{ap, refl, ◌∙◌}
use Rattle.cd_gate.specs.Passes.{view}
use Rattle.cd_hall.proofs.Requested.{shares_current, ticket_begun, begun_calm, worn_calm, worn_looks, worn_is}
use Rattle.cd_hall.proofs.hall.Hall.ticket_in_turn.Goals as goal

pub share-requires-after_bounds : goal.share-requires-after_bounds
share-requires-after_bounds g c κs within = shares_current g.F.Fixtures.calls g.F.Fixtures.faults g.M.ModuleSet.plan g.M.ModuleSet.change c.args.self.now.gate c.args.turn.now c.args.pass.now c.requires.turn c.serial-serial.result (c.serial-serial.ensures.state _ _ c.requires.turn.board)

pub returns-in-Some-clause-begun : goal.returns-in-Some-clause-begun
returns-in-Some-clause-begun g c = let b = c.in-Some.ensures.begun in (b.0, b.1)

pub returns-in-Some-clause-ticket : goal.returns-in-Some-clause-ticket
returns-in-Some-clause-ticket g c =
    let b = c.in-Some.ensures.begun in
    ticket_begun g.F.Fixtures.calls g.F.Fixtures.faults g.M.ModuleSet.plan g.M.ModuleSet.change c.args.self.now.gate c.args.turn.now c.args.pass.now c.requires.turn _ c.serial-serial.result (view c.begin_in_turn.new.pass) b.0 (c.serial-serial.ensures.state _ _ c.requires.turn.board) c.in-Ok.ensures.state b.1.begins b.2.core_is

pub returns-in-Some-clause-calm : goal.returns-in-Some-clause-calm
returns-in-Some-clause-calm g c =
    let b = c.in-Some.ensures.begun in
    begun_calm (view c.args.pass.now) (view c.begin_in_turn.new.pass) _ b.0 b.1.begins b.2.core_is c.requires.left

pub returns-in-Some-clause-unchecked : goal.returns-in-Some-clause-unchecked
returns-in-Some-clause-unchecked g c none = ap (λ z. z.checked) c.in-Some.ensures.begun.1.begins.is

pub returns-in-None-clause-err : goal.returns-in-None-clause-err
returns-in-None-clause-err g c =
    let t = c.in-None.ensures.worn refl in
    worn_looks (view c.args.pass.now) (view c.begin_in_turn.new.pass) t.0 c.requires.turn.knows t.1 t.3

pub returns-in-None-clause-worn : goal.returns-in-None-clause-worn
returns-in-None-clause-worn g c is =
    let t = c.in-None.ensures.worn refl in
    worn_is (view c.args.pass.now) (view c.begin_in_turn.new.pass) t.0 t.1.found.history t.2 t.3

pub returns-in-None-clause-calm : goal.returns-in-None-clause-calm
returns-in-None-clause-calm g c =
    let t = c.in-None.ensures.worn refl in
    worn_calm (view c.args.pass.now) (view c.begin_in_turn.new.pass) t.0 t.1 t.3 c.requires.left

pub returns-in-None-clause-unchecked : goal.returns-in-None-clause-unchecked
returns-in-None-clause-unchecked g c none = let t = c.in-None.ensures.worn refl in ap (λ z. z.checked) t.3 ∙ none
