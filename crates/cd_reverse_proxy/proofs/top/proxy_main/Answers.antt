use Rattle.std.proofs.Common.{subst, sym}
use Rattle.cd_reverse_proxy.specs.Seen.{seen}
use Rattle.cd_reverse_proxy.specs.Top.{CompletesAs}
use Rattle.cd_reverse_proxy.proofs.Completing.{completes}
use Rattle.cd_reverse_proxy.proofs.top.proxy_main.Goals as goal

pub returns-in-Ok-clause-completes : goal.returns-in-Ok-clause-completes
returns-in-Ok-clause-completes g c =
    let s = seen g.O.Sink.holds g.O.Sink.faults g.F.Fixtures.calls g.F.Fixtures.faults g.L.Lane.past g.L.Lane.faults g.P.Peers.past g.P.Peers.faults
    c.args.out.now c.run_proxy.new.out c.args.fixtures c.args.lanes c.args.peers c.run_proxy.result in
    subst (CompletesAs s c.run_proxy.result.status) (sym c.in-Ok.ensures.settings) (completes s c.run_proxy.result.status c.in-Ok.settings c.run_proxy.ensures.ends)
