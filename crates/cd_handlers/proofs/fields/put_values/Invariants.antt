use Rattle.std.proofs.Common.{◌≡◌, ◌++◌, length}
use Rattle.std.specs.Vec.Iter.{into_iter_items, into_iter_len}
use Rattle.cd_handlers.specs.Fields.{with_values}
use Rattle.cd_handlers.proofs.fields.put_values.Given as goal

abbrev pub invariant-loop-value : goal.invariant-loop-value
invariant-loop-value l = record {
  can_next : (goal.iterator-loop-value).can_next l.value-iterator;
  is_finite : (goal.iterator-loop-value).is_finite l.value-iterator;
  as_long : length (into_iter_items l.value-iterator) ≡ into_iter_len l.value-iterator;
  so_far : l.fn.fields ++ with_values l.name l.fn.values
      ≡ l.fields ++ with_values l.name (into_iter_items l.value-iterator);
}
