use Rattle.std.proofs.Common.{◌≡◌, ◌++◌, true}
use Rattle.cd_fill.specs.Values.{query_values}
use Rattle.cd_fill.proofs.Commas.{rest_joined}
use Rattle.cd_fill.proofs.query.put_query.Given as goal

abbrev pub invariant-loop-name : goal.invariant-loop-name
invariant-loop-name l =
    l.initial.out ++ rest_joined true (query_values l.key l.query)
    ≡ l.out ++ rest_joined l.is_first (query_values l.key l.name-iterator.input.now)
