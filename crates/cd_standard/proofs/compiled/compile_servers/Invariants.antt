use Rattle.std.proofs.Common.{◌≡◌, ◌++◌, length, map}
use Rattle.std.specs.Vec.Iter.{into_iter_items, into_iter_len}
use Rattle.cd_standard.specs.Compiled.{acts_compiled, acts_of_server}
use Rattle.cd_standard.specs.Loading.{HaveNoCycle}
use Rattle.cd_standard.proofs.compiled.compile_servers.Given as goal

abbrev pub invariant-loop-server : goal.invariant-loop-server
invariant-loop-server l = record {
  can_next : (goal.iterator-loop-server).can_next l.server-iterator;
  is_finite : (goal.iterator-loop-server).is_finite l.server-iterator;
  as_long : length (into_iter_items l.server-iterator) ≡ into_iter_len l.server-iterator;
  acyclic : HaveNoCycle (into_iter_items l.server-iterator);
  alike : map acts_compiled l.made ++ map acts_of_server (into_iter_items l.server-iterator) ≡ map acts_of_server l.fn.servers;
}
