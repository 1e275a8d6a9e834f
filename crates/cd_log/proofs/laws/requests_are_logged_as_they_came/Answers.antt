use Rattle.cd_log.proofs.Shown.{method_came, target_came}
use Rattle.cd_log.proofs.laws.requests_are_logged_as_they_came.Goals as goal

pub returns-clause-method : goal.returns-clause-method
returns-clause-method c = method_came

pub returns-clause-target : goal.returns-clause-target
returns-clause-target c = target_came
