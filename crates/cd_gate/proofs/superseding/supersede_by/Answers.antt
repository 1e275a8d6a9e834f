use Rattle.std.proofs.Common.{rules}
use Rattle.cd_gate.proofs.SerialSteps.{publishes_now}
use Rattle.cd_gate.proofs.superseding.supersede_by.Goals as goal

pub swap-requires : goal.swap-requires
swap-requires g c = (
  search rules,
  search rules,
  publishes_now g.T.Stands.stands c.args.top.now.key.value _ _ c.args.serial c.requires.entry.0 c.requires.entry.1 c.requires.entry.2 g.E.Says.said c.args.seat.now.me c.requires.entry.3
      c.requires.turn.0 c.requires.turn.1 c.requires.turn.2 c.requires.turn.3 c.requires.current.0 c.requires.current.1 c.requires.may.0 c.requires.may.1,
)

pub returns-clause-publishes : goal.returns-clause-publishes
returns-clause-publishes g c = c.swap.ensures.2 c.args.serial c.requires.current.0
