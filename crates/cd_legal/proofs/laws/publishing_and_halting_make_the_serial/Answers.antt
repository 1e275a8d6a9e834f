use Rattle.cd_legal.proofs.Serials.{published-count, publishes-count}
use Rattle.cd_legal.proofs.laws.publishing_and_halting_make_the_serial.Goals as goal

pub returns-clause-serial : goal.returns-clause-serial
returns-clause-serial c log legal = published-count log legal

pub returns-clause-published : goal.returns-clause-published
returns-clause-published c = publishes-count
