use Rattle.std.specs.Prelude.{map}
use Rattle.cd_serve.specs.Meanings.{logged}
use Rattle.cd_serve.proofs.Sends.{sent-broken, sent-unlogged, sent-whole}
use Rattle.cd_serve.proofs.replying.send.Goals as goal

pub returns-in-Failed-clause-sent : goal.returns-in-Failed-clause-sent
returns-in-Failed-clause-sent g c =
    let puts = c.in-Failed.ensures.past in
    sent-broken c.args.request.now c.args.answer.now (map logged c.args.lines.now) puts.0 c.args.bytes.now (g.L.Lane.past c.args.lane.now) (g.L.Lane.past c.put.new.lane) c.requires.bytes puts.1 puts.2

pub returns-then-not-log_all-clause-sent : goal.returns-then-not-log_all-clause-sent
returns-then-not-log_all-clause-sent g c =
    let puts = c.in-All.ensures.past in
    sent-unlogged c.args.request.now c.args.answer.now (map logged c.args.lines.now) puts.0 c.args.bytes.now (g.L.Lane.past c.args.lane.now) (g.L.Lane.past c.put.new.lane) (g.L.Lane.past c.log_all.new.lane) c.requires.bytes puts.1 puts.2
    c.if-not-log_all.ensures.logged

pub returns-clause-sent : goal.returns-clause-sent
returns-clause-sent g c =
    let puts = c.in-All.ensures.past in
    sent-whole c.args.request.now c.args.answer.now (map logged c.args.lines.now) puts.0 c.args.bytes.now c.says_close.result (g.L.Lane.past c.args.lane.now) (g.L.Lane.past c.put.new.lane) (g.L.Lane.past c.log_all.new.lane) c.requires.bytes puts.1 puts.2
    c.if-not-log_all.ensures.logged c.says_close.ensures
