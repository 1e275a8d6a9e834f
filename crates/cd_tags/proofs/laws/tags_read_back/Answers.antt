use Rattle.std.proofs.Common.{rules}
use Rattle.cd_tags.proofs.ReadBack.{read_back}
use Rattle.cd_tags.proofs.laws.tags_read_back.Goals as goal

pub returns : goal.returns
returns c hex d digits = read_back c.args.path.now hex (search rules) d digits
