use Rattle.std.proofs.Common.{rules, ap, sym, ◌∙◌, ◌+◌, ◌%◌, ◌==◌, cond, subst}
use Rattle.cd_legal.specs.declared.limits.TheConstants.{MAX_UNRETIRED}
use Rattle.cd_gate.specs.Tables.{Ends}
use Rattle.cd_gate.proofs.Passes.{stays, keeps_all}
use Rattle.cd_gate.proofs.RequestSteps.{finishes}
use Rattle.cd_gate.proofs.gate.Gate.finish_step.Goals as goal

pub fetch_sub-requires : goal.fetch_sub-requires
fetch_sub-requires g c = (
  search rules,
  search rules,
  finishes g.T.Stands.stands c.args.self.now.table.shared.key.value _ _ _ c.args.serial c.args.pass.now.seat.me c.requires.pass.1 c.requires.ticket c.requires.settled
      (c.balance_word-word.ensures ∙ ap (λ b. 3 + cond b 0 (1 + c.args.serial % MAX_UNRETIRED)) c.requires.halted),
)

pub returns-clause-pass : goal.returns-clause-pass
returns-clause-pass g c =
    let t = c.fetch_sub.ensures.2 c.args.serial c.requires.ticket in
    stays c.args.self.now.table.shared.table_id c.args.self.now.table.shared.key.value c.args.pass.now.number c.args.pass.now.seat.table_id c.fetch_sub.new.seat.table_id c.args.pass.now.seat.me c.fetch_sub.new.seat.me c.fetch_sub.ensures.0 (ap (λ m. m.1) t.2) (keeps_all _ _ _ _ _ _ _ _ (ap (λ m. m.0) t.2 ∙ t.3.is)) c.requires.pass

pub returns-clause-ends : goal.returns-clause-ends
returns-clause-ends g c =
    let t = c.fetch_sub.ensures.2 c.args.serial c.requires.ticket in
    (t.0, subst (λ w. Ends c.args.pass.now.seat.me.0 w c.args.serial (c.fetch_sub.result == 1) t.0) (sym (ap (λ m. m.0) t.2)) t.3)
