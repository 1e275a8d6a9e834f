use Rattle.cd_host.proofs.NotAlone.{halts-not-alone}
use Rattle.cd_host.proofs.laws.a_lane_that_halts_is_not_alone.Goals as goal

pub returns : goal.returns
returns c = halts-not-alone
