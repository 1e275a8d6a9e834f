use Rattle.cd_proxy.proofs.ResponseLemmas.{response_stays}
use Rattle.cd_proxy.proofs.laws.responses_stay.Goals as goal

pub returns : goal.returns
returns c = response_stays
