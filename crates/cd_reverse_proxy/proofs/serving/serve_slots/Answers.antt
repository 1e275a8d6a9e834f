use Rattle.std.proofs.Common.{slice_index_or}
use Rattle.cd_reverse_proxy.proofs.Seating.{relayed-as}
use Rattle.cd_reverse_proxy.proofs.serving.serve_slots.Goals as goal

pub returns-clause-served : goal.returns-clause-served
returns-clause-served g c i d lt =
    let at = (c.for_each_mut.ensures i d lt).1 in
    relayed-as c.args.upstreams.now g.L.Lane.busy g.L.Lane.faults g.L.Lane.past g.P.Peers.busy g.P.Peers.faults g.P.Peers.past at.argument.now at.after_call.now
    (slice_index_or c.args.slots.now i d) (slice_index_or c.for_each_mut.new.s i d) at.argument_is at.left at.call
