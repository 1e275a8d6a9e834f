use Rattle.cd_serve.proofs.Connecting.{connection-starts, connection-takes, connection-ended, connection-replies, go-on-more}
use Rattle.cd_serve.proofs.laws.connections_go_on.Goals as goal

pub returns-clause-starts : goal.returns-clause-starts
returns-clause-starts c = connection-starts

pub returns-clause-takes : goal.returns-clause-takes
returns-clause-takes c = connection-takes

pub returns-clause-ended : goal.returns-clause-ended
returns-clause-ended c = connection-ended

pub returns-clause-replies : goal.returns-clause-replies
returns-clause-replies c = connection-replies

pub returns-clause-goes_on : goal.returns-clause-goes_on
returns-clause-goes_on c = go-on-more
