use Rattle.std.proofs.Common.{length}
use Rattle.cd_reverse_proxy.proofs.settings.+read_each.Given as goal

abbrev pub decreases-read_each : goal.decreases-read_each
decreases-read_each l = length l.pairs.now
