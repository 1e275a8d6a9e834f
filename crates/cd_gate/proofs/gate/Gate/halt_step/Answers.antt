use Rattle.std.proofs.Common.{rules, ap}
use Rattle.cd_gate.proofs.Passes.{turn_stays}
use Rattle.cd_gate.proofs.SerialSteps.{halts_now}
use Rattle.cd_gate.proofs.gate.Gate.halt_step.Goals as goal

pub swap-requires : goal.swap-requires
swap-requires g c = (search rules, search rules, halts_now g.T.Stands.stands c.args.self.now.table.shared.key.value _ _ c.args.serial c.args.pass.now.seat.me c.requires.pass.1 c.requires.settled c.requires.current.0 c.requires.runs)

pub returns-clause-pass : goal.returns-clause-pass
returns-clause-pass g c =
    let t = c.swap.ensures.2 c.args.serial c.requires.current.0 in
    turn_stays c.args.self.now.table.shared.table_id c.args.self.now.table.shared.key.value c.args.pass.now.number c.args.pass.now.seat.table_id c.swap.new.seat.table_id c.args.pass.now.seat.me c.swap.new.seat.me c.swap.ensures.0 (ap (λ m. m.1) t.3) _ _ _ _ _ _ (ap (λ m. m.0) t.3) c.requires.pass

pub returns-clause-halts : goal.returns-clause-halts
returns-clause-halts g c = let t = c.swap.ensures.2 c.args.serial c.requires.current.0 in (t.0, t.1, t.2, ap (λ m. m.0) t.3, t.4)
