use Rattle.std.proofs.Common.{◌≡◌, length}
use Rattle.std.specs.Vec.Iter.{into_iter_items, into_iter_len}
use Rattle.cd_handlers.specs.Fields.{replaced}
use Rattle.cd_handlers.proofs.fields.replaced.Given as goal

abbrev pub invariant-loop-change : goal.invariant-loop-change
invariant-loop-change l = record {
  can_next : (goal.iterator-loop-change).can_next l.change-iterator;
  is_finite : (goal.iterator-loop-change).is_finite l.change-iterator;
  as_long : length (into_iter_items l.change-iterator) ≡ into_iter_len l.change-iterator;
  so_far : replaced l.fn.changes l.fn.fields ≡ replaced (into_iter_items l.change-iterator) l.now;
}
