use Rattle.std.proofs.Common.{rules}
use Rattle.cd_match.specs.Matchers.{route_sets}
use Rattle.cd_match.proofs.Alike.{sets_are}
use Rattle.cd_match.proofs.reading.SetsSettings.read.Goals as goal

pub returns-in_err-sets : goal.returns-in_err-sets
unfolding route_sets
returns-in_err-sets c = rw sets_are (search rules)

pub returns : goal.returns
unfolding route_sets
returns c = rw sets_are (search rules)
