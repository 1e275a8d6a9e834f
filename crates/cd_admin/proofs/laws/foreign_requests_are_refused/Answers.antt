use Rattle.cd_admin.proofs.Foreign.{foreign_host, foreign_origin}
use Rattle.cd_admin.proofs.laws.foreign_requests_are_refused.Goals as goal

pub returns-clause-host : goal.returns-clause-host
returns-clause-host c = foreign_host

pub returns-clause-origin : goal.returns-clause-origin
returns-clause-origin c = foreign_origin
