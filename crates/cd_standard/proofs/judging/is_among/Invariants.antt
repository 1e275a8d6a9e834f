use Rattle.std.proofs.Common.{◌≡◌, drop}
use Rattle.cd_standard.specs.Loading.{is_among}
use Rattle.cd_standard.proofs.judging.is_among.Given as goal

abbrev pub invariant-loop-one : goal.invariant-loop-one
invariant-loop-one l = is_among l.address (drop l.one-index l.listened) ≡ is_among l.address l.listened
