use Rattle.std.proofs.Common.{rules, ◌<◌, length, ap, arith}
use Rattle.cd_reverse_proxy.proofs.Rows.{first-and-rest, moved-in, moved-length}
use Rattle.cd_reverse_proxy.proofs.seats.seat.Goals as goal

pub loop-lanes-preserved : goal.loop-lanes-preserved
loop-lanes-preserved g c =
    let inv = c.loop-lanes.invariant in
    let some : 0 < length c.loop-lanes.lanes.items = search rules in
    let some_peers : 0 < length c.loop-lanes.peers.items = omega (arith, some, inv.enough) in
    let lanes = first-and-rest c.loop-lanes.lanes.items c.remove-lane.new.self.items c.remove-lane.result some c.remove-lane.ensures.value c.remove-lane.ensures.items in
    let peers = first-and-rest c.loop-lanes.peers.items c.remove-of_lane.new.self.items c.remove-of_lane.result some_peers c.remove-of_lane.ensures.value c.remove-of_lane.ensures.items in
    record {
      lanes = moved-in (λ slot. slot.lane) c.loop-lanes.slots.items c.place.new.list.items _ c.loop-lanes.lanes.items c.remove-lane.new.self.items _ c.place.ensures.items lanes inv.lanes;
      peers = moved-in (λ slot. slot.peers) c.loop-lanes.slots.items c.place.new.list.items _ c.loop-lanes.peers.items c.remove-of_lane.new.self.items _ c.place.ensures.items peers inv.peers;
      enough = let a = ap length lanes in let b = ap length peers in omega (arith, a, b, inv.enough);
      room = let n = moved-length c.loop-lanes.slots.items c.place.new.list.items _ c.loop-lanes.lanes.items c.remove-lane.new.self.items c.remove-lane.result c.place.ensures.items lanes in omega (arith, n, inv.room, c.place.ensures.capacity);
      lanes_room = search rules;
      peers_room = search rules;
    }
