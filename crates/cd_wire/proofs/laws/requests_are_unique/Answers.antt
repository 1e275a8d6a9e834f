use Rattle.cd_wire.proofs.TailLaws.{same_requests, same_tail}
use Rattle.cd_wire.proofs.laws.requests_are_unique.Goals as goal

pub returns-clause-requests : goal.returns-clause-requests
returns-clause-requests c = same_requests

pub returns-clause-tail : goal.returns-clause-tail
returns-clause-tail c = same_tail
