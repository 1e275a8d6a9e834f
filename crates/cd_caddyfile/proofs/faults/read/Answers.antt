use Rattle.cd_caddyfile.proofs.FaultSteps.{whole_fault, same_matchers}
use Rattle.cd_caddyfile.proofs.WordSteps.{if_ok, if_ok2}
use Rattle.cd_caddyfile.proofs.faults.read.Goals as goal

pub returns-clause-fault : goal.returns-clause-fault
returns-clause-fault c = if_ok c.first_of.result (λ found is.
    whole_fault c.args.bytes.now c.in_ok-read.read.text_fault found.fault c.in_ok-read.read.reader c.in_ok-read.ensures.lines c.in_ok-read.ensures.all is) c.first_of.ensures.fault

pub returns-clause-matchers : goal.returns-clause-matchers
returns-clause-matchers c = if_ok2 c.first_of.result (λ found defined-is tested-is.
    same_matchers c.args.bytes.now found.matchers c.in_ok-read.read.reader c.in_ok-read.ensures.all defined-is tested-is) c.first_of.ensures.defined c.first_of.ensures.tested
