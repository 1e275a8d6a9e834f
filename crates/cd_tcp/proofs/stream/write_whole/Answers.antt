use Rattle.cd_stdio.proofs.GivenParts.{given_on, within}
use Rattle.cd_tcp.proofs.stream.write_whole.Goals as goal

pub loop-preserved : goal.loop-preserved
loop-preserved g c =
    let (bound, given) = c.loop.invariant in
    let left = c.rest_from-left.ensures in (
      within _ _ _ _ bound left c.in-Some.ensures.bound,
      given_on _ _ _ _ _ _ _ given left c.in-Some.ensures.bytes,
    )
