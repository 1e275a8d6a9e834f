use Rattle.std.proofs.Common.{refl}
use Rattle.cd_serve.proofs.Joined.{lanes-whole}
use Rattle.cd_host.proofs.Unfailing.{have-ended}
use Rattle.cd_host.proofs.laws.lanes_without_a_fault_are_not_interrupted.Goals as goal

pub returns-clause-uninterrupted : goal.returns-clause-uninterrupted
returns-clause-uninterrupted c m history lanes answered told none = lanes-whole m history 1 lanes told.reports told.told told.covered none

pub returns-clause-ended : goal.returns-clause-ended
returns-clause-ended c m first start given ran none nobody = have-ended given.lanes none (ran.ended refl nobody)
