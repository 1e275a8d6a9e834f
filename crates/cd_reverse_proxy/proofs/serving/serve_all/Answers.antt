use Rattle.std.proofs.Common.{◌≡◌, List, false, sym, subst}
use Rattle.std.specs.Prelude.{All}
use Rattle.cd_reverse_proxy.proofs.Rows.{as-many, from-map}
use Rattle.cd_reverse_proxy.proofs.Seating.{all-relayed, are-relayed, lanes-idle, peers-idle}
use Rattle.cd_reverse_proxy.proofs.serving.serve_all.Goals as goal

pub serve_seated-requires-clause-lanes : goal.serve_seated-requires-clause-lanes
serve_seated-requires-clause-lanes g c κs within =
    from-map (λ slot. slot.lane) (λ lane. g.L.Lane.busy lane ≡ false) c.seat.new.slots.items
    (subst (λ lanes. All (λ lane. g.L.Lane.busy lane ≡ false) lanes) (sym c.seat.ensures.lanes) c.requires.ready.lanes_idle)

pub serve_seated-requires-clause-peers : goal.serve_seated-requires-clause-peers
serve_seated-requires-clause-peers g c κs within =
    from-map (λ slot. slot.peers) (λ of_lane. g.P.Peers.busy of_lane ≡ false) c.seat.new.slots.items
    (subst (λ peers. All (λ of_lane. g.P.Peers.busy of_lane ≡ false) peers) (sym c.seat.ensures.peers) c.requires.ready.peers_idle)

pub returns-clause-back : goal.returns-clause-back
returns-clause-back g c =
    let all = all-relayed c.args.upstreams.now g.L.Lane.busy g.L.Lane.faults g.L.Lane.past g.P.Peers.busy g.P.Peers.faults g.P.Peers.past c.seat.new.slots.items c.serve_seated.new.slots.items c.serve_seated.ensures.length c.serve_seated.ensures.served in
    record {
      as_many_lanes = as-many (λ slot. slot.lane) (λ slot. slot.lane) c.seat.new.slots.items c.serve_seated.new.slots.items c.unseat.new.lanes.items c.args.lanes.now.items c.unseat.ensures.lanes c.serve_seated.ensures.length c.seat.ensures.lanes;
      as_many_peers = as-many (λ slot. slot.peers) (λ slot. slot.peers) c.seat.new.slots.items c.serve_seated.new.slots.items c.unseat.new.peers.items c.args.peers.now.items c.unseat.ensures.peers c.serve_seated.ensures.length c.seat.ensures.peers;
      lanes_idle = subst (λ lanes. All (λ lane. g.L.Lane.busy lane ≡ false) lanes) (sym {A = List g.row.L.Denot} c.unseat.ensures.lanes)
          (lanes-idle c.args.upstreams.now g.L.Lane.busy g.L.Lane.faults g.L.Lane.past g.P.Peers.busy g.P.Peers.faults g.P.Peers.past c.seat.new.slots.items c.serve_seated.new.slots.items all);
      peers_idle = subst (λ peers. All (λ of_lane. g.P.Peers.busy of_lane ≡ false) peers) (sym {A = List g.row.P.Denot} c.unseat.ensures.peers)
          (peers-idle c.args.upstreams.now g.L.Lane.busy g.L.Lane.faults g.L.Lane.past g.P.Peers.busy g.P.Peers.faults g.P.Peers.past c.seat.new.slots.items c.serve_seated.new.slots.items all);
    }

pub returns-clause-served : goal.returns-clause-served
returns-clause-served g c =
    are-relayed c.args.upstreams.now g.L.Lane.busy g.L.Lane.faults g.L.Lane.past g.P.Peers.busy g.P.Peers.faults g.P.Peers.past c.seat.new.slots.items c.serve_seated.new.slots.items
    c.args.lanes.now.items c.unseat.new.lanes.items c.args.peers.now.items c.unseat.new.peers.items c.unseat.result.answered c.unseat.result.cut
    (all-relayed c.args.upstreams.now g.L.Lane.busy g.L.Lane.faults g.L.Lane.past g.P.Peers.busy g.P.Peers.faults g.P.Peers.past c.seat.new.slots.items c.serve_seated.new.slots.items c.serve_seated.ensures.length c.serve_seated.ensures.served)
    c.seat.ensures.lanes c.unseat.ensures.lanes c.seat.ensures.peers c.unseat.ensures.peers c.unseat.ensures.answered c.unseat.ensures.cut
