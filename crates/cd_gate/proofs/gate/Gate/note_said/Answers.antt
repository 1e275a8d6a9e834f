use Rattle.std.proofs.Common.{rules, ap}
use Rattle.cd_gate.proofs.TurnSteps.{notes_now}
use Rattle.cd_gate.proofs.gate.Gate.note_said.Goals as goal

pub fetch_add-requires : goal.fetch_add-requires
fetch_add-requires g c =
    (search rules, search rules, notes_now g.T.Stands.stands c.args.self.now.table.shared.key.value _ _ c.args.pass.now.seat.me g.E.Says.said c.requires.pass.1 c.requires.may)

pub returns-clause-noted : goal.returns-clause-noted
returns-clause-noted g c = let t = c.fetch_add.ensures.2 in (t.0, t.1, ap (λ m. m.0) t.2, t.3)
