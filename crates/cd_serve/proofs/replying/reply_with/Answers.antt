use Rattle.std.proofs.Common.{[]}
use Rattle.cd_serve.proofs.Sends.{sent-lacking}
use Rattle.cd_serve.proofs.replying.reply_with.Goals as goal

pub returns-in_default-clause-sent : goal.returns-in_default-clause-sent
returns-in_default-clause-sent g c = sent-lacking c.args.request.now c.args.answer.now [] (g.L.Lane.past c.args.lane.now)
