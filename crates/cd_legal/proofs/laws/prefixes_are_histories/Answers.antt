use Rattle.cd_legal.proofs.Logs.{legal-front, history-front}
use Rattle.cd_legal.proofs.laws.prefixes_are_histories.Goals as goal

pub returns-clause-legal : goal.returns-clause-legal
returns-clause-legal c = legal-front

pub returns-clause-signed : goal.returns-clause-signed
returns-clause-signed c = history-front
