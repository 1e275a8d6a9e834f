use Rattle.std.proofs.Common.{rules, refl, ap}
use Rattle.cd_gate.specs.declared.view.Unsettled.{Unsettled}
use Rattle.cd_gate.proofs.Passes.{settle_stays}
use Rattle.cd_gate.proofs.SerialSteps.{settles_now}
use Rattle.cd_gate.proofs.gate.Gate.settle_step.Goals as goal

pub fetch_sub-requires : goal.fetch_sub-requires
fetch_sub-requires g c = (search rules, search rules, settles_now g.T.Stands.stands c.args.self.now.table.shared.key.value _ _ _ c.args.serial c.args.begins c.args.pass.now.seat.me refl c.requires.pass.1 c.requires.unsettled c.requires.stopped)

pub returns-clause-pass : goal.returns-clause-pass
returns-clause-pass g c =
    let u : Unsettled = record { serial = c.args.serial; begins = c.args.begins } in
    let t = c.fetch_sub.ensures.2 u c.requires.unsettled in
    settle_stays c.args.self.now.table.shared.table_id c.args.self.now.table.shared.key.value c.args.pass.now.number c.args.pass.now.seat.table_id c.fetch_sub.new.seat.table_id c.args.pass.now.seat.me c.fetch_sub.new.seat.me c.fetch_sub.ensures.0 (ap (λ m. m.1) t.3) c.args.serial _ (ap (λ m. m.0) t.3) c.requires.pass

pub returns-clause-settles : goal.returns-clause-settles
returns-clause-settles g c =
    let u : Unsettled = record { serial = c.args.serial; begins = c.args.begins } in
    let t = c.fetch_sub.ensures.2 u c.requires.unsettled in (t.0, t.1, t.2, ap (λ m. m.0) t.3)
