use Rattle.std.proofs.Common.{refl}
use Rattle.cd_proxy.proofs.relaying.relay.Goals as goal

pub returns-clause-relayed : goal.returns-clause-relayed
returns-clause-relayed g c =
    let e = c.exchange-came.ensures.exchanged in
    let s = c.reply.ensures.sent in
    record {
      reply = record {
        request = c.args.request.now;
        to = c.pick_upstream-to.result.now;
        exchange = e.one;
        came = c.exchange-came.result;
        done = c.reply.result;
        put = s.put;
      };
      request = refl;
      ends = refl;
      is = record { among = c.pick_upstream-to.ensures; exchanged = e.is; sends = s.sends; lacking = c.reply.ensures.owed };
      told = e.told;
      past = s.past;
      later = c.exchange-came.ensures.later;
      failed = c.exchange-came.ensures.failed;
    }
