use Rattle.std.proofs.Common.{◌≤◌, ◌+◌}
use Rattle.std.specs.Vec.{vec_len, vec_capacity}
use Rattle.cd_pool.proofs.pool.add_places.Given as goal

abbrev pub invariant-loop : goal.invariant-loop
invariant-loop l = vec_len l.places + l.count ≤ vec_capacity l.places + l.counter
