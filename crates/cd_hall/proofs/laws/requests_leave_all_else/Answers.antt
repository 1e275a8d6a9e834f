use Rattle.cd_hall.proofs.Cores.{history-core, fixture_calls-core, failures-core, publishings-core, last_conf-core}
use Rattle.cd_hall.proofs.laws.requests_leave_all_else.Goals as goal

pub returns-clause-history : goal.returns-clause-history
returns-clause-history g log is = history-core log is

pub returns-clause-calls : goal.returns-clause-calls
returns-clause-calls g log = fixture_calls-core log

pub returns-clause-failures : goal.returns-clause-failures
returns-clause-failures g log = failures-core log

pub returns-clause-publishings : goal.returns-clause-publishings
returns-clause-publishings g log = publishings-core log

pub returns-clause-conf : goal.returns-clause-conf
returns-clause-conf g log = last_conf-core log
