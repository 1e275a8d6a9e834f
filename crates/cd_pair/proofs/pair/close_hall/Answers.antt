use Rattle.std.proofs.Common.{sym, subst}
use Rattle.cd_gate.specs.Ends.{IsRowOf, AreFree}
use Rattle.cd_hall.specs.Ends.{IsHalted}
use Rattle.cd_pair.proofs.Both.{row_of, free_of, halted_of}
use Rattle.cd_pair.proofs.pair.close_hall.Goals as goal

pub close-fixtures-requires-clause-row : goal.close-fixtures-requires-clause-row
close-fixtures-requires-clause-row g c κs within = subst (λ l. IsRowOf c.args.hall.gate l) (sym c.put_two.ensures) (row_of c.args.hall c.halt.new.pass c.args.pair.two c.halt.ensures.has c.requires.two)

pub close-fixtures-requires-clause-free : goal.close-fixtures-requires-clause-free
close-fixtures-requires-clause-free g c κs within = subst (λ l. AreFree l) (sym c.put_two.ensures) (free_of c.args.hall c.halt.new.pass c.args.pair.two c.halt.ensures.has c.requires.two)

pub close-fixtures-requires-clause-halted : goal.close-fixtures-requires-clause-halted
close-fixtures-requires-clause-halted g c κs within = subst (λ l. IsHalted l) (sym c.put_two.ensures) (halted_of c.args.hall c.halt.new.pass c.args.pair.two c.halt.ensures.halted)
