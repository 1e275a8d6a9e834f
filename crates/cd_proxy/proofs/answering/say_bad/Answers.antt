use Rattle.cd_proxy.proofs.Telling.{sent_nothing}
use Rattle.cd_proxy.proofs.answering.say_bad.Goals as goal

-- nothing was sent
pub returns-in-Err-clause-sent : goal.returns-in-Err-clause-sent
returns-in-Err-clause-sent g c = sent_nothing c.args.request.now _ (g.L.Lane.past c.args.lane.now)
