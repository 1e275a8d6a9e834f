use Rattle.cd_gate.proofs.InTurn.{calm}
use Rattle.cd_gate.proofs.knowing.calm_entries_leave_the_duties.Goals as goal

pub returns : goal.returns
returns g c v log e f now is left = calm v log e f now is left
