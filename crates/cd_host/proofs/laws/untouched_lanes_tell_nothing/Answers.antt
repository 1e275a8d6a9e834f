use Rattle.cd_host.proofs.Untouched.{untouched, unsigned}
use Rattle.cd_host.proofs.laws.untouched_lanes_tell_nothing.Goals as goal

pub returns-clause-signed : goal.returns-clause-signed
returns-clause-signed c = unsigned

pub returns-clause-told : goal.returns-clause-told
returns-clause-told c m history lanes legal none all = untouched m history legal lanes none all
