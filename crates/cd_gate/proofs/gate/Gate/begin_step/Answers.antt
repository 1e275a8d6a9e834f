use Rattle.std.proofs.Common.{rules, ap, sym, ◌∙◌, ◌/◌, subst}
use Rattle.cd_gate.specs.declared.table.TheConstants.{SERIAL_STEP}
use Rattle.cd_gate.specs.Tables.{Begins}
use Rattle.cd_gate.proofs.Passes.{stays, keeps_all}
use Rattle.cd_gate.proofs.RequestSteps.{begins}
use Rattle.cd_gate.proofs.gate.Gate.begin_step.Goals as goal

pub fetch_add-found-requires : goal.fetch_add-found-requires
fetch_add-found-requires g c =
    (search rules, search rules, begins g.T.Stands.stands c.args.self.now.table.shared.key.value _ _ c.args.pass.now.seat.me c.requires.pass.1 c.requires.idle c.requires.room)

pub returns-clause-pass : goal.returns-clause-pass
returns-clause-pass g c =
    let t = c.fetch_add-found.ensures.2 in
    stays c.args.self.now.table.shared.table_id c.args.self.now.table.shared.key.value c.args.pass.now.number c.args.pass.now.seat.table_id c.fetch_add-found.new.seat.table_id c.args.pass.now.seat.me c.fetch_add-found.new.seat.me c.fetch_add-found.ensures.0 (ap (λ m. m.1) t.2) (keeps_all _ _ _ _ _ _ _ _ (ap (λ m. m.0) t.2 ∙ t.3.is)) c.requires.pass

pub returns-clause-begins : goal.returns-clause-begins
returns-clause-begins g c =
    let t = c.fetch_add-found.ensures.2 in
    (t.0, subst (λ w. Begins c.args.pass.now.seat.me.0 w (c.fetch_add-found.result / SERIAL_STEP) t.0) (sym (ap (λ m. m.0) t.2)) t.3)
