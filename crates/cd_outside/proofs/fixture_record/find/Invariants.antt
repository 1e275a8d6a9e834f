use Rattle.std.proofs.Common.{◌≡◌, ◌++◌, take, drop}
use Rattle.cd_outside.specs.Keys.{has_key}
use Rattle.cd_outside.specs.FixtureCall.{without_key}
use Rattle.cd_outside.proofs.fixture_record.find.Given as goal

abbrev pub invariant-loop-at : goal.invariant-loop-at
invariant-loop-at l = record {
  found : has_key l.key l.keys ≡ has_key l.key (drop l.at l.keys);
  rest : without_key l.key l.keys ≡ take l.at l.keys ++ without_key l.key (drop l.at l.keys);
}
