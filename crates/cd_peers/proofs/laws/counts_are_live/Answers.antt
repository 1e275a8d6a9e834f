use Rattle.cd_peers.proofs.LiveLemmas.{counts_are_live, others_have_none}
use Rattle.cd_peers.proofs.laws.counts_are_live.Goals as goal

pub returns-clause-live : goal.returns-clause-live
returns-clause-live c = counts_are_live

pub returns-clause-others : goal.returns-clause-others
returns-clause-others c = others_have_none
