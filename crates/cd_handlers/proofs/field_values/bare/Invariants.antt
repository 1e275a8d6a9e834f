use Rattle.std.proofs.Common.{◌≡◌, ◌++◌, length}
use Rattle.std.specs.Vec.Iter.{into_iter_items, into_iter_len}
use Rattle.cd_handlers.specs.FieldValues.{bare}
use Rattle.cd_handlers.proofs.field_values.bare.Given as goal

abbrev pub invariant-loop-request : goal.invariant-loop-request
invariant-loop-request l = record {
  can_next : (goal.iterator-loop-request).can_next l.request-iterator;
  is_finite : (goal.iterator-loop-request).is_finite l.request-iterator;
  as_long : length (into_iter_items l.request-iterator) ≡ into_iter_len l.request-iterator;
  so_far : bare l.fn.fields ≡ l.found ++ bare (into_iter_items l.request-iterator);
}
