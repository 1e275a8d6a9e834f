use Rattle.std.proofs.Common.{◌≡◌}
use Rattle.std.specs.List.{list_any}
use Rattle.cd_fill.specs.Values.{query_values}
use Rattle.cd_match.specs.Query.{is_wanted}
use Rattle.cd_match.proofs.query.key_passes.Given as goal

abbrev pub invariant-loop-name : goal.invariant-loop-name
invariant-loop-name l = list_any (is_wanted l.test.values) (query_values l.test.key l.query) ≡ list_any (is_wanted l.test.values) (query_values l.test.key l.name-iterator.input.now)
