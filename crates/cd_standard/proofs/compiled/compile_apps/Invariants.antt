use Rattle.std.proofs.Common.{◌≡◌, ◌++◌, length, map}
use Rattle.std.specs.List.{flat_map}
use Rattle.std.specs.Vec.Iter.{into_iter_items, into_iter_len}
use Rattle.cd_standard.specs.Compiled.{acts_compiled_app, acts_of_app}
use Rattle.cd_standard.specs.Loading.{HaveNoCycle, app_servers}
use Rattle.cd_standard.proofs.compiled.compile_apps.Given as goal

abbrev pub invariant-loop-app : goal.invariant-loop-app
invariant-loop-app l = record {
  can_next : (goal.iterator-loop-app).can_next l.app-iterator;
  is_finite : (goal.iterator-loop-app).is_finite l.app-iterator;
  as_long : length (into_iter_items l.app-iterator) ≡ into_iter_len l.app-iterator;
  acyclic : HaveNoCycle (flat_map app_servers (into_iter_items l.app-iterator));
  alike : map acts_compiled_app l.made ++ map acts_of_app (into_iter_items l.app-iterator) ≡ map acts_of_app l.fn.apps;
}
