use Rattle.cd_proxy.proofs.Telling.{sent_nothing}
use Rattle.cd_proxy.proofs.answering.reply.Goals as goal

-- nothing was sent
pub returns-in-NoMemory-clause-sent : goal.returns-in-NoMemory-clause-sent
returns-in-NoMemory-clause-sent g c = sent_nothing c.args.request.now _ (g.L.Lane.past c.args.lane.now)
