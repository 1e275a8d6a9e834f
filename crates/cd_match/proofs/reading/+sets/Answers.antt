use Rattle.std.proofs.Common.{rules}
use Rattle.cd_match.specs.Not.{not_matcher}
use Rattle.cd_match.proofs.Alike.{sets_are}
use Rattle.cd_match.proofs.reading.+sets.Goals as goal

pub read_not-returns : goal.read_not-returns
unfolding not_matcher
read_not-returns t c = rw sets_are (search rules)

pub read_not-returns-in_err-sets : goal.read_not-returns-in_err-sets
unfolding not_matcher
read_not-returns-in_err-sets t c = rw sets_are (search rules)
