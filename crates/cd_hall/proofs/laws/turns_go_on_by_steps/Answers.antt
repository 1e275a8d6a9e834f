use Rattle.std.proofs.Common.{refl}
use Rattle.cd_gate.specs.Steps.{with_turn, checking, worn, noted, superseded, settled}
use Rattle.cd_hall.proofs.Since.{found_then, entered, looks, goes_on, goes_further, begun_further}
use Rattle.cd_hall.proofs.laws.turns_go_on_by_steps.Goals as goal

pub returns-clause-entered : goal.returns-clause-entered
returns-clause-entered g c v log f = entered v (with_turn v log) log f refl

pub returns-clause-checked : goal.returns-clause-checked
returns-clause-checked g c v w found log s f = (looks v w (checking w log) found log s f refl, looks v w (worn w log) found log s f refl)

pub returns-clause-begun : goal.returns-clause-begun
returns-clause-begun g c v w x serial found log added s b = (found_then found added log, begun_further v w x serial found log added s b)

pub returns-clause-noted : goal.returns-clause-noted
returns-clause-noted g c v w found log added e s f now = (found_then found added log, goes_further v w (noted w log e) found log added e s f.found now refl)

pub returns-clause-superseded : goal.returns-clause-superseded
returns-clause-superseded g c v w found log added e n begins s f now = (found_then found added log, goes_further v w (superseded w log e n begins) found log added e s f.found now refl)

pub returns-clause-settled : goal.returns-clause-settled
returns-clause-settled g c v w found added n due s = goes_on v w (settled w n due) found added s refl
