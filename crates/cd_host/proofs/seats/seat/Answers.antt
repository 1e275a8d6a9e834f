use Rattle.std.proofs.Common.{rules, ◌<◌, length, sym, ap, ◌∙◌, subst, arith}
use Rattle.cd_gate.specs.Passes.{view}
use Rattle.cd_host.specs.Seats.{AllFrom, IsUnused, IsReady}
use Rattle.cd_host.proofs.Rows.{all-more, first-and-rest, first-of, next-from, moved-in, moved-length}
use Rattle.cd_host.proofs.Told.{told-unused}
use Rattle.cd_host.proofs.seats.seat.Goals as goal

pub loop-lanes-preserved : goal.loop-lanes-preserved
loop-lanes-preserved g c =
    let h = c.args.hall.now in
    let inv = c.loop-lanes.invariant in
    let some : 0 < length c.loop-lanes.lanes.items = search rules in
    let some_pass : 0 < length c.loop-lanes.passes.items = omega (arith, some, inv.enough) in
    let lanes = first-and-rest c.loop-lanes.lanes.items c.remove-lane.new.self.items c.remove-lane.result some c.remove-lane.ensures.value c.remove-lane.ensures.items in
    let passes = first-and-rest c.loop-lanes.passes.items c.remove-pass.new.self.items c.remove-pass.result some_pass c.remove-pass.ensures.value c.remove-pass.ensures.items in
    let of = first-of (IsUnused h) _ c.loop-lanes.passes.items c.remove-pass.new.self.items c.remove-pass.result passes inv.passes in
    let told = told-unused h _ c.remove-pass.result c.tell.new.to of.0 c.tell.ensures.to c.tell.ensures.same in
    record {
      lanes = moved-in (λ slot. slot.lane) c.loop-lanes.slots.items c.place.new.list.items _ c.loop-lanes.lanes.items c.remove-lane.new.self.items _ c.place.ensures.items lanes inv.lanes;
      enough = let a = ap length lanes in let b = ap length passes in omega (arith, a, b, inv.enough);
      passes = next-from (IsUnused h) c.loop-lanes.slots.items c.place.new.list.items _ _ c.place.ensures.items of.1;
      ready = subst (λ l. AllFrom (IsReady h (view c.tell.new.from).seen) 1 l) (sym c.place.ensures.items)
          (all-more (IsReady h (view c.tell.new.from).seen) 1 c.loop-lanes.slots.items _ (rw c.tell.ensures.from inv.ready) (record { unused = told; told = rw c.tell.ensures.from c.tell.ensures.seen.1 }));
      root = c.tell.ensures.from ∙ inv.root;
      room = let n = moved-length c.loop-lanes.slots.items c.place.new.list.items _ c.loop-lanes.lanes.items c.remove-lane.new.self.items c.remove-lane.result c.place.ensures.items lanes in omega (arith, n, inv.room, c.place.ensures.capacity);
      passes_room = search rules;
      lanes_room = search rules;
    }
