use Rattle.std.proofs.Common.{rules, refl}
use Rattle.cd_gate.proofs.SerialSteps.{readies}
use Rattle.cd_gate.proofs.superseding.make_ready.Goals as goal

pub store-requires : goal.store-requires
store-requires g c = (search rules, search rules, readies g.T.Stands.stands c.args.top.now.key.value _ _ _ c.args.serial c.args.seat.now.me refl c.requires.turn.0 c.requires.turn.1 c.requires.current.0 c.requires.current.1 c.requires.retired)
