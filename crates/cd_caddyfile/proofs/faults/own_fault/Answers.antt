use Rattle.std.proofs.Common.{sym, ap, ◌∙◌}
use Rattle.cd_caddyfile.specs.Faults.{sooner, first_fault, fault_where}
use Rattle.cd_caddyfile.specs.declared.fault.CaddyfileKind.TheVariants.{BadText, BadBlock}
use Rattle.cd_caddyfile.proofs.Sooner.{first_of_both}
use Rattle.cd_caddyfile.proofs.faults.own_fault.Goals as goal

pub returns : goal.returns
returns c = c.sooner.ensures ∙ (ap (λ f. sooner f c.fault_where-2.result) c.fault_where.ensures
    ∙ (ap (λ f. sooner (first_fault (fault_where c.args.is_bad_text c.args.number BadText)) f) c.fault_where-2.ensures
    ∙ sym (first_of_both (fault_where c.args.is_bad_text c.args.number BadText) (fault_where c.args.is_misplaced c.args.number BadBlock))))
