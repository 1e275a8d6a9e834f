use Rattle.cd_caddyfile.proofs.WordSteps.{if_ok}
use Rattle.cd_caddyfile.proofs.AddressSteps.{alone, parted}
use Rattle.cd_caddyfile.proofs.address.host_and_port.Goals as goal

pub returns-in-None : goal.returns-in-None
returns-in-None c = if_ok c.host_alone.result (λ found is. alone c.args.text.now found c.in-None.ensures is) c.host_alone.ensures

pub returns-in-Some : goal.returns-in-Some
returns-in-Some c = if_ok c.host_then_port.result (λ found is. parted c.args.text.now _ _ found c.in-Some.ensures.0 c.in-Some.ensures.1 c.in-Some.ensures.2 is) c.host_then_port.ensures
