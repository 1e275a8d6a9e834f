use Rattle.std.proofs.Common.{ap, option_map}
use Rattle.cd_link.proofs.LaneLemmas.{puts_held}
use Rattle.cd_link.proofs.link_lane.LinkLaneLane.write.Goals as goal

-- what was written on the connection is what was written on the lane
pub returns-then-eq-clause-past : goal.returns-then-eq-clause-past
returns-then-eq-clause-past g c =
    let lane = c.args.self.now in
    puts_held c.write-given.result c.args.piece.now lane.over.value c.in-Some.link.life.value c.write-given.new.self.life.value _
    (ap (option_map (λ link. link.life.value)) c.in-Some.is) (lane.begun c.requires.busy) c.write-given.ensures.life

pub returns-else-eq-clause-past : goal.returns-else-eq-clause-past
returns-else-eq-clause-past g c =
    let lane = c.args.self.now in
    puts_held c.write-given.result c.args.piece.now lane.over.value c.in-Some.link.life.value c.write-given.new.self.life.value _
    (ap (option_map (λ link. link.life.value)) c.in-Some.is) (lane.begun c.requires.busy) c.write-given.ensures.life
