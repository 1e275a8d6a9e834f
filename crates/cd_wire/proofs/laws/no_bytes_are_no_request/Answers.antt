use Rattle.cd_wire.proofs.TakingLemmas.{nothing_no_request}
use Rattle.cd_wire.proofs.laws.no_bytes_are_no_request.Goals as goal

pub returns : goal.returns
returns c = nothing_no_request
