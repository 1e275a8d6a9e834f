use Rattle.std.proofs.Common.{rules}
use Rattle.cd_match.proofs.Labels.{longer_pattern, step_fails, step_fits}
use Rattle.cd_match.proofs.host.host_fits.Goals as goal

pub returns-in_default-split_at_byte : goal.returns-in_default-split_at_byte
returns-in_default-split_at_byte c = search (rules, longer_pattern)

pub returns-then-not-label_fits : goal.returns-then-not-label_fits
returns-then-not-label_fits c = search (rules, step_fails)

pub loop-label_wanted-preserved : goal.loop-label_wanted-preserved
loop-label_wanted-preserved c = search (rules, step_fits)
