use Rattle.cd_host.proofs.Beginning.{begins-with}
use Rattle.cd_host.proofs.laws.the_first_configuration_is_that_of_the_start.Goals as goal

pub returns : goal.returns
returns c = begins-with
