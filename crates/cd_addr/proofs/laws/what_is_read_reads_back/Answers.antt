use Rattle.cd_addr.proofs.ReadBack.{each_reads_back}
use Rattle.cd_addr.proofs.laws.what_is_read_reads_back.Goals as goal

pub returns : goal.returns
returns c = each_reads_back c.args.text.now
