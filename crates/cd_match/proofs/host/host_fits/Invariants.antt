use Rattle.std.proofs.Common.{◌≡◌, length}
use Rattle.cd_match.specs.Host.{host_fits}
use Rattle.cd_match.proofs.host.host_fits.Given as goal

abbrev pub invariant-loop-label_wanted : goal.invariant-loop-label_wanted
invariant-loop-label_wanted l = host_fits l.pattern l.host ≡ host_fits l.wanted l.left

abbrev pub decreases-loop-label_wanted : goal.decreases-loop-label_wanted
decreases-loop-label_wanted l = length l.wanted
