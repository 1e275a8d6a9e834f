use Rattle.cd_proxy.proofs.Telling.{sent_nothing}
use Rattle.cd_proxy.proofs.answering.send.Goals as goal

-- nothing was sent
pub returns-in_default-clause-sent : goal.returns-in_default-clause-sent
returns-in_default-clause-sent g c = sent_nothing c.args.request.now _ (g.L.Lane.past c.args.lane.now)
