use Rattle.std.proofs.Common.{◌∙◌}
use Rattle.cd_wire.proofs.NumberLemmas.{number_push}
use Rattle.cd_wire.proofs.judging.number_of.Goals as goal

pub loop-digit-preserved : goal.loop-digit-preserved
loop-digit-preserved c =
    c.min-number.ensures
    ∙ number_push c.args.digits.now c.loop-digit.digit-index c.loop-digit.number c.loop-digit-test.true c.requires c.loop-digit.invariant
