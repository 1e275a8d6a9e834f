use Rattle.cd_legal.proofs.Confs.{conf-now, conf-halted}
use Rattle.cd_legal.proofs.laws.the_current_configuration_is_the_last_one.Goals as goal

pub returns-clause-last : goal.returns-clause-last
returns-clause-last c log legal = conf-now log legal

pub returns-clause-halted : goal.returns-clause-halted
returns-clause-halted c log legal = conf-halted log legal
