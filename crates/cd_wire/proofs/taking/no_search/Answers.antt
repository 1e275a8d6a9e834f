use Rattle.cd_wire.proofs.KeptLemmas.{nothing_searched}
use Rattle.cd_wire.proofs.taking.no_search.Goals as goal

pub returns : goal.returns
returns c = nothing_searched
