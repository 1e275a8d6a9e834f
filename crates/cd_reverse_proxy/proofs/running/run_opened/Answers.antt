use Rattle.std.proofs.Common.{refl}
use Rattle.cd_outside.specs.Devices.{device}
use Rattle.cd_reverse_proxy.specs.Workers.{workers}
use Rattle.cd_reverse_proxy.proofs.Ends.{has-run}
use Rattle.cd_reverse_proxy.proofs.running.run_opened.Goals as goal

pub returns-clause-runs : goal.returns-clause-runs
returns-clause-runs g c =
    rw c.conclude.ensures.2 (record {
      status = c.conclude.ensures.0;
      is = refl;
      so = has-run c.args.upstreams.now
          (workers g.L.Lane.past g.L.Lane.faults g.P.Peers.past g.P.Peers.faults c.args.lanes.items c.serve-counts.new.lanes.items c.args.peers.items c.serve-counts.new.peers.items) _
          (device g.O.Sink.holds g.O.Sink.faults c.args.out.now c.conclude.new.out) (g.O.Sink.holds c.serve-counts.new.out) (g.O.Sink.faults c.serve-counts.new.out)
          c.serve-counts.result c.serve-counts.ensures.later c.serve-counts.ensures.begun c.conclude.ensures.0 c.conclude.ensures.1;
    })
