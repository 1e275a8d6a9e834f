use Rattle.cd_legal.proofs.Shutting.{failures-count}
use Rattle.cd_legal.proofs.laws.openings_fail_by_failed_keys.Goals as goal

pub returns : goal.returns
returns c = failures-count
