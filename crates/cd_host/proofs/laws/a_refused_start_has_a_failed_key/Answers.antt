use Rattle.cd_host.proofs.Beginning.{refused-failed}
use Rattle.cd_host.proofs.laws.a_refused_start_has_a_failed_key.Goals as goal

pub returns : goal.returns
returns c = refused-failed
