use Rattle.cd_program.proofs.Storms.{each-lane}
use Rattle.cd_program.proofs.laws.a_storm_tells_of_each_lane.Goals as goal

pub returns : goal.returns
returns c = each-lane
