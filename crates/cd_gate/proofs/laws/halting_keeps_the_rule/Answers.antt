use Rattle.std.proofs.Common.{◌+◌}
use Rattle.cd_legal.specs.declared.entry.Entry.TheVariants.{Halt}
use Rattle.cd_gate.proofs.Serials.{step_supersede, halts}
use Rattle.cd_gate.proofs.laws.halting_keeps_the_rule.Goals as goal

pub returns : goal.returns
returns g c o log m seat v n r at has is on quiet = step_supersede g.T.Stands.stands o log m r seat v at has n (Halt (n + 1)) quiet (halts g.T.Stands.stands o log m r seat v at has n is on)
