use Rattle.std.proofs.Common.{ap, option_map}
use Rattle.cd_link.proofs.LaneLemmas.{receives_held}
use Rattle.cd_link.proofs.link_lane.LinkLaneLane.receive.Goals as goal

-- what the connection received is what the lane received
pub returns-else-eq-clause-past : goal.returns-else-eq-clause-past
returns-else-eq-clause-past g c =
    let lane = c.args.self.now in
    receives_held c.receive-received.result c.args.into.now c.receive-received.new.into lane.over.value c.in-Some.link.life.value c.receive-received.new.self.life.value _
    (ap (option_map (λ link. link.life.value)) c.in-Some.is) (lane.begun c.requires.busy) c.receive-received.ensures.life
