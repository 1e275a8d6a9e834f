use Rattle.cd_link.proofs.LaneLemmas.{told_serial}
use Rattle.cd_link.proofs.link_lane.LinkLaneLane.accept.Goals as goal

-- the serial that is told last is that of the connection which has come
pub invariant_of-self-in_default-clause-none_later : goal.invariant_of-self-in_default-clause-none_later
invariant_of-self-in_default-clause-none_later g c =
    told_serial (λ link. link.serial) c.come-accepted.result.1 c.args.self.now.since.value c.tell_serial.new.since.value c.tell_serial.ensures
