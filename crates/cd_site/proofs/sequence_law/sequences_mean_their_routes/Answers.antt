use Rattle.cd_site.proofs.Blind.{sequences_are_blind}
use Rattle.cd_site.proofs.Heart.{routes_mean}
use Rattle.cd_site.proofs.sequence_law.sequences_mean_their_routes.Goals as goal

pub returns : goal.returns
returns c named name limit names p n x own room none = routes_mean named name limit names p n x (sequences_are_blind p own) room none
