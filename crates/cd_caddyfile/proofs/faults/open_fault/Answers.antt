use Rattle.std.proofs.Common.{ap, ◌∙◌, true}
use Rattle.cd_caddyfile.specs.Faults.{sooner, fault_where}
use Rattle.cd_caddyfile.specs.declared.fault.CaddyfileKind.TheVariants.{BadBlock}
use Rattle.cd_caddyfile.proofs.RepeatSteps.{blame_on, blame_ends, blocks_step, none_open}
use Rattle.cd_caddyfile.proofs.faults.open_fault.Goals as goal

pub each-preserved : goal.each-preserved
each-preserved c =
    blame_on _ c.each.fault c.sooner-fault.result (fault_where true c.in-Some.block.line BadBlock) _ _ c.each.invariant
    (blocks_step _ _ c.in-Some.block c.in-Some.ensures)
    (c.sooner-fault.ensures ∙ ap (λ f. sooner c.each.fault f) c.fault_where-here.ensures)

pub returns-in-None : goal.returns-in-None
returns-in-None c = blame_ends _ c.each.fault _ c.each.invariant (none_open _ c.in-None.ensures.0)
