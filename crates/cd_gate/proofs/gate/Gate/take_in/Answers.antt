use Rattle.std.proofs.Common.{rules}
use Rattle.cd_gate.proofs.SeatSteps.{takes_in}
use Rattle.cd_gate.proofs.gate.Gate.take_in.Goals as goal

pub join_seat-requires : goal.join_seat-requires
join_seat-requires g c =
    (search rules, search rules, search rules, search rules, takes_in g.T.Stands.stands c.args.self.now.table.shared.key.value _ _ _ _ (search rules) (search rules) (search rules) (search rules) c.requires.free.0 c.requires.free.1)
