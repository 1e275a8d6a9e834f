use Rattle.cd_serve.proofs.Joined.{lanes-told}
use Rattle.cd_host.proofs.Gathered.{slots-of, apart-all, all-at-end}
use Rattle.cd_host.proofs.laws.lanes_come_together.Goals as goal

pub returns-clause-told : goal.returns-clause-told
returns-clause-told c m start found history slots legal q all = lanes-told m history slots legal (slots-of m start found history 1 slots q all)

pub returns-clause-signed : goal.returns-clause-signed
returns-clause-signed c = apart-all

pub returns-clause-ended : goal.returns-clause-ended
returns-clause-ended c m start found history slots = all-at-end m start found history 1 slots
