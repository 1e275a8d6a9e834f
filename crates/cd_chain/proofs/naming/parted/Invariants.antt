use Rattle.std.proofs.Common.{◌≡◌, ◌++◌, length, map, Some}
use Rattle.std.specs.Vec.Iter.{into_iter_items, into_iter_len}
use Rattle.cd_routes.specs.declared.named.NamedRoute.{NamedRoute}
use Rattle.cd_routes.specs.Invoking.{route_names}
use Rattle.cd_chain.proofs.naming.parted.Given as goal

abbrev pub invariant-loop-one : goal.invariant-loop-one
invariant-loop-one l = record {
  can_next : (goal.iterator-loop-one).can_next l.one-iterator;
  is_finite : (goal.iterator-loop-one).is_finite l.one-iterator;
  as_long : length (into_iter_items l.one-iterator) ≡ into_iter_len l.one-iterator;
  names : route_names l.fn.named ≡ l.names ++ route_names (into_iter_items l.one-iterator);
  slots : map (λ (r : NamedRoute). Some r.route) l.fn.named ≡ l.slots.items ++ map (λ (r : NamedRoute). Some r.route) (into_iter_items l.one-iterator);
}
