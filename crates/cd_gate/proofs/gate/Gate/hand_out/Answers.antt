use Rattle.std.proofs.Common.{rules, ◌<◌, subst}
use Rattle.cd_legal.specs.declared.limits.TheConstants.{MAX_PASSES}
use Rattle.cd_gate.proofs.SeatSteps.{hands_out}
use Rattle.cd_gate.proofs.gate.Gate.hand_out.Goals as goal

pub split_seat-seat-requires : goal.split_seat-seat-requires
split_seat-seat-requires g c =
    (search rules, search rules, hands_out g.T.Stands.stands c.args.self.now.table.shared.key.value _ _ (search rules) (search rules) (subst (λ n. n < MAX_PASSES) c.requires.number.0 c.requires.number.1))
