use Rattle.std.proofs.Common.{[]}
use Rattle.cd_serve.specs.Requests.{keeps_as}
use Rattle.cd_serve.proofs.Sends.{sent-after, sent-unkept}
use Rattle.cd_serve.proofs.keeping.acknowledge.Goals as goal

pub returns-in-Failed-clause-sent : goal.returns-in-Failed-clause-sent
returns-in-Failed-clause-sent g c =
    let k = c.in-Failed.ensures.keeps in
    sent-unkept (keeps_as c.args.ready.now.serial c.args.ready.now.text) c.args.request.now c.args.answer.now [] (g.L.Lane.past c.args.lane.now) (g.L.Lane.past c.keep.new.lane) k.0 k.1

pub returns-clause-sent : goal.returns-clause-sent
returns-clause-sent g c =
    sent-after (keeps_as c.args.ready.now.serial c.args.ready.now.text) c.send.result c.args.request.now c.args.answer.now [] (g.L.Lane.past c.args.lane.now) (g.L.Lane.past c.keep.new.lane) (g.L.Lane.past c.send.new.lane) c.in-All.ensures.keeps c.send.ensures.made c.send.ensures.sent
