use Rattle.std.proofs.Common.{rules, ◌<◌, length, List, sym, ap, ◌∙◌, refl, subst, arith}
use Rattle.cd_legal.specs.declared.entry.Signed.{Signed}
use Rattle.cd_legal.proofs.Logs.{prefix_trans}
use Rattle.cd_gate.proofs.Longer.{prefix_self}
use Rattle.cd_gate.specs.declared.view.View.{View}
use Rattle.cd_gate.specs.Passes.{view}
use Rattle.cd_life.specs.declared.board.Board.{Board}
use Rattle.cd_outside.specs.Counts.{count_end}
use Rattle.cd_host.specs.Seats.{AllFrom, IsIdleAt, IsWithin}
use Rattle.cd_host.proofs.Rows.{all-more, all-alike-from, first-and-rest, first-of, next-from, moved-out, moved-length, counted}
use Rattle.cd_host.proofs.seats.unseat.Goals as goal

pub loop-slots-init : goal.loop-slots-init
loop-slots-init g c = record {
  root = c.requires.root;
  seen = prefix_self (view c.args.root.now).seen;
  same = refl;
  idle = rw c.requires.none.0 c.requires.slots;
  passes = rw c.requires.none.0 refl;
  within = rw c.requires.none.0 tt;
  lanes = rw c.requires.none.1 refl;
  answered = search rules;
  answered_fits = search rules;
  cut = search rules;
  cut_fits = search rules;
  passes_room = search rules;
  passes_kept = search rules;
  lanes_room = search rules;
}

pub loop-slots-preserved : goal.loop-slots-preserved
loop-slots-preserved g c =
    let h = c.args.hall.now in
    let inv = c.loop-slots.invariant in
    let some : 0 < length c.loop-slots.slots.items = search rules in
    let slots = first-and-rest c.loop-slots.slots.items c.remove-pass.new.self.items c.remove-pass.result some c.remove-pass.ensures.value c.remove-pass.ensures.items in
    let of = first-of (λ k slot. IsIdleAt h k slot.pass) _ c.loop-slots.slots.items c.remove-pass.new.self.items c.remove-pass.result slots inv.idle in
    let now : List Signed = (view c.tell.new.to).seen in
    record {
      root = c.tell.ensures.to;
      seen = prefix_trans _ _ now inv.seen c.tell.ensures.seen.0;
      same = c.tell.ensures.same ∙ ap (λ (v : View (Board g.row.M.Denot g.row.F.Denot g.row.M-Compiled.Denot g.M.ModuleSet)). record v { seen = now }) inv.same;
      idle = next-from (λ k slot. IsIdleAt h k slot.pass) c.loop-slots.passes.items c.place.new.list.items _ _ c.place.ensures.items of.1;
      passes = moved-out (λ slot. slot.pass) c.loop-slots.passes.items c.place.new.list.items c.tell.new.from c.loop-slots.slots.items c.remove-pass.new.self.items c.remove-pass.result _ c.place.ensures.items c.tell.ensures.from slots inv.passes;
      within = subst (λ l. AllFrom (IsWithin now) 1 l) (sym c.place.ensures.items)
          (all-more (IsWithin now) 1 c.loop-slots.passes.items c.tell.new.from
          (all-alike-from (IsWithin (view c.loop-slots.root).seen) (IsWithin now) (λ k p w. prefix_trans _ _ now w c.tell.ensures.seen.0) 1 c.loop-slots.passes.items inv.within)
          (rw c.tell.ensures.from c.tell.ensures.seen.1));
      lanes = moved-out (λ slot. slot.lane) c.loop-slots.lanes.items c.place-in-loop-slots.new.list.items c.remove-pass.result.lane c.loop-slots.slots.items c.remove-pass.new.self.items c.remove-pass.result _ c.place-in-loop-slots.ensures.items refl slots inv.lanes;
      answered = counted (λ slot. slot.end.answered) c.loop-slots.slots.items c.remove-pass.new.self.items c.remove-pass.result count_end c.loop-slots.sums.answered c.add.new.self.answered _ c.add.ensures.answered slots inv.answered;
      answered_fits = omega (arith, c.add.ensures.answered);
      cut = counted (λ slot. slot.end.cut) c.loop-slots.slots.items c.remove-pass.new.self.items c.remove-pass.result count_end c.loop-slots.sums.cut c.add.new.self.cut _ c.add.ensures.cut slots inv.cut;
      cut_fits = omega (arith, c.add.ensures.cut);
      passes_room = let n = moved-length c.loop-slots.passes.items c.place.new.list.items _ c.loop-slots.slots.items c.remove-pass.new.self.items c.remove-pass.result c.place.ensures.items slots in omega (arith, n, inv.passes_room, c.place.ensures.capacity);
      passes_kept = omega (arith, inv.passes_kept, c.place.ensures.capacity);
      lanes_room = let n = moved-length c.loop-slots.lanes.items c.place-in-loop-slots.new.list.items _ c.loop-slots.slots.items c.remove-pass.new.self.items c.remove-pass.result c.place-in-loop-slots.ensures.items slots in omega (arith, n, inv.lanes_room, c.place-in-loop-slots.ensures.capacity);
    }
