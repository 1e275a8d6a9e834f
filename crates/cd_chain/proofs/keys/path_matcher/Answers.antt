use Rattle.cd_match.specs.Holds.{matcher_holds}
use Rattle.cd_chain.proofs.Noted.{all_later}
use Rattle.cd_chain.proofs.keys.path_matcher.Goals as goal

pub loop-matcher-preserved : goal.loop-matcher-preserved
loop-matcher-preserved c x all =
    all_later (matcher_holds x) c.as_slice-matcher-items.result.now c.loop-matcher.matcher-index c.matcher-item.result c.loop-matcher-test.true (c.loop-matcher.invariant x all)
