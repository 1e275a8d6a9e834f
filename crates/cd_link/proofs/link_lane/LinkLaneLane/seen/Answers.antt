use Rattle.std.proofs.Common.{◌≤◌, sym, subst, option_map, unwrap_or, leb-true}
use Rattle.cd_link.specs.Lanes.{last_serial}
use Rattle.cd_link.proofs.LaneLemmas.{came_last}
use Rattle.cd_link.proofs.link_lane.LinkLaneLane.seen.Goals as goal

-- the connection came with a serial that is no later than the one it has now
pub returns-then-seen-clause-none_later : goal.returns-then-seen-clause-none_later
returns-then-seen-clause-none_later g c = λ all least came.
    let lane = c.args.self.now in
    let held : last_serial lane.since.value ≤ c.in-Some.link.serial =
    subst (λ link. last_serial lane.since.value ≤ unwrap_or (option_map (λ link. link.serial) link) 0) c.in-Some.is (lane.none_later c.requires) in
    came_last lane.since.value least c.in-Some.link.serial c.args.serial came held (leb-true _ _ (sym c.if-seen.ensures.result))
