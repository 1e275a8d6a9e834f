use Rattle.std.proofs.Common.{refl}
use Rattle.cd_gate.specs.Steps.{without_turn}
use Rattle.cd_hall.proofs.Since.{spreads, turned_one, turned_none}
use Rattle.cd_hall.proofs.laws.turns_spread_what_they_made.Goals as goal

pub returns-clause-spread : goal.returns-clause-spread
returns-clause-spread g c v w found added s idle checked ready settled = spreads v w (without_turn w) found added s refl idle checked ready settled

pub returns-clause-one : goal.returns-clause-one
returns-clause-one g c v w found p s t = turned_one v w (without_turn w) found p s refl t

pub returns-clause-none : goal.returns-clause-none
returns-clause-none g c v w found s t = turned_none v w (without_turn w) found s refl t
