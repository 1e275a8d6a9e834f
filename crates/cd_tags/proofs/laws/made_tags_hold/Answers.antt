use Rattle.std.proofs.Common.{rules}
use Rattle.cd_tags.proofs.ReadBack.{made_holds}
use Rattle.cd_tags.proofs.laws.made_tags_hold.Goals as goal

pub returns : goal.returns
returns c tree text tag d made is = made_holds c.args.path.now tree text tag (search rules) d made is
