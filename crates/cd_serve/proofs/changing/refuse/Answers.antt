use Rattle.std.proofs.Common.{[]}
use Rattle.cd_serve.specs.Faults.{fault_answer}
use Rattle.cd_serve.proofs.Sends.{sent-lacking}
use Rattle.cd_serve.proofs.changing.refuse.Goals as goal

pub returns-in-Err-clause-sent : goal.returns-in-Err-clause-sent
returns-in-Err-clause-sent g c = sent-lacking c.args.request.now (fault_answer c.args.fault.now) [] (g.L.Lane.past c.args.lane.now)
