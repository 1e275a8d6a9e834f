use Rattle.std.proofs.Common.{◌≡◌, ◌≤◌, ◌+◌, ◌++◌, min, map, length, vec_len}
use Rattle.std.specs.Prelude.{sum_by}
use Rattle.std.specs.Vec.{vec_capacity}
use mathlib.Core.List.{IsPrefix}
use Rattle.cd_outside.specs.Counts.{count_end}
use Rattle.cd_gate.specs.Passes.{view}
use Rattle.cd_hall.specs.Calls.{IsPassOf}
use Rattle.cd_host.specs.Seats.{AllFrom, IsIdleAt, IsWithin}
use Rattle.cd_host.proofs.seats.unseat.Given as goal

abbrev pub invariant-loop-slots : goal.invariant-loop-slots
invariant-loop-slots g l = record {
  root : IsPassOf l.hall l.root;
  seen : IsPrefix (view l.initial.root).seen (view l.root).seen;
  same : view l.root ≡ record (view l.initial.root) { seen = (view l.root).seen };
  idle : AllFrom (λ k slot. IsIdleAt l.hall k slot.pass) (1 + length l.passes.items) l.slots.items;
  passes : l.passes.items ++ map (λ slot. slot.pass) l.slots.items ≡ map (λ slot. slot.pass) l.initial.slots.items;
  within : AllFrom (IsWithin (view l.root).seen) 1 l.passes.items;
  lanes : l.lanes.items ++ map (λ slot. slot.lane) l.slots.items ≡ map (λ slot. slot.lane) l.initial.slots.items;
  answered : min (l.sums.answered + sum_by (λ slot. slot.end.answered) l.slots.items) count_end ≡ min (sum_by (λ slot. slot.end.answered) l.initial.slots.items) count_end;
  answered_fits : l.sums.answered ≤ count_end;
  cut : min (l.sums.cut + sum_by (λ slot. slot.end.cut) l.slots.items) count_end ≡ min (sum_by (λ slot. slot.end.cut) l.initial.slots.items) count_end;
  cut_fits : l.sums.cut ≤ count_end;
  passes_room : vec_len l.passes + vec_len l.slots ≤ vec_capacity l.passes;
  passes_kept : vec_capacity l.initial.passes ≤ vec_capacity l.passes;
  lanes_room : vec_len l.lanes + vec_len l.slots ≤ vec_capacity l.lanes;
}

abbrev pub decreases-loop-slots : goal.decreases-loop-slots
decreases-loop-slots g l = vec_len l.slots
