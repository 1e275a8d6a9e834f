use Rattle.std.proofs.Common.{rules, ◌<◌, length, refl, arith}
use Rattle.cd_outside.specs.Counts.{count_end}
use Rattle.cd_reverse_proxy.proofs.Rows.{first-and-rest, moved-out, moved-length, counted}
use Rattle.cd_reverse_proxy.proofs.seats.unseat.Goals as goal

pub loop-slots-init : goal.loop-slots-init
loop-slots-init g c = record {
  lanes = rw c.requires.none.0 refl;
  peers = rw c.requires.none.1 refl;
  answered = search rules;
  answered_fits = search rules;
  cut = search rules;
  cut_fits = search rules;
  lanes_room = search rules;
  peers_room = search rules;
}

pub loop-slots-preserved : goal.loop-slots-preserved
loop-slots-preserved g c =
    let inv = c.loop-slots.invariant in
    let some : 0 < length c.loop-slots.slots.items = search rules in
    let slots = first-and-rest c.loop-slots.slots.items c.remove-lane.new.self.items c.remove-lane.result some c.remove-lane.ensures.value c.remove-lane.ensures.items in
    record {
      lanes = moved-out (λ slot. slot.lane) c.loop-slots.lanes.items c.place.new.list.items c.remove-lane.result.lane c.loop-slots.slots.items c.remove-lane.new.self.items c.remove-lane.result _ c.place.ensures.items refl slots inv.lanes;
      peers = moved-out (λ slot. slot.peers) c.loop-slots.peers.items c.place-in-loop-slots.new.list.items c.remove-lane.result.peers c.loop-slots.slots.items c.remove-lane.new.self.items c.remove-lane.result _ c.place-in-loop-slots.ensures.items refl slots inv.peers;
      answered = counted (λ slot. slot.end.answered) c.loop-slots.slots.items c.remove-lane.new.self.items c.remove-lane.result count_end c.loop-slots.sums.answered c.add_lane.new.sums.answered _ c.add_lane.ensures.answered slots inv.answered;
      answered_fits = omega (arith, c.add_lane.ensures.answered);
      cut = counted (λ slot. slot.end.cut) c.loop-slots.slots.items c.remove-lane.new.self.items c.remove-lane.result count_end c.loop-slots.sums.cut c.add_lane.new.sums.cut _ c.add_lane.ensures.cut slots inv.cut;
      cut_fits = omega (arith, c.add_lane.ensures.cut);
      lanes_room = let n = moved-length c.loop-slots.lanes.items c.place.new.list.items _ c.loop-slots.slots.items c.remove-lane.new.self.items c.remove-lane.result c.place.ensures.items slots in omega (arith, n, inv.lanes_room, c.place.ensures.capacity);
      peers_room = let n = moved-length c.loop-slots.peers.items c.place-in-loop-slots.new.list.items _ c.loop-slots.slots.items c.remove-lane.new.self.items c.remove-lane.result c.place-in-loop-slots.ensures.items slots in omega (arith, n, inv.peers_room, c.place-in-loop-slots.ensures.capacity);
    }
