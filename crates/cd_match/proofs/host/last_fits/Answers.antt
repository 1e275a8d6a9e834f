use Rattle.std.proofs.Common.{sym}
use Rattle.cd_match.proofs.Labels.{longer_host, last_labels}
use Rattle.cd_match.proofs.host.last_fits.Goals as goal

pub returns-in-Some : goal.returns-in-Some
returns-in-Some c = sym (longer_host c.args.pattern.now c.args.host.now c.requires c.in-Some.ensures.0)

pub returns-in-None : goal.returns-in-None
returns-in-None c = rw c.label_fits.ensures (sym (last_labels c.args.pattern.now c.args.host.now c.requires c.in-None.ensures))
