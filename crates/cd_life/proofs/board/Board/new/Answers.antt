use Rattle.std.proofs.Common.{◌≡◌, ◌∙◌, ap, length, refl, rules}
use Rattle.cd_desk.specs.Desks.{none_open}
use Rattle.cd_desk.proofs.Untouched.{length_none}
use Rattle.cd_life.proofs.Standings.{nothing_kept, covers_none}
use Rattle.cd_life.proofs.board.Board.new.Goals as goal

pub returns-clause-stands : goal.returns-clause-stands
returns-clause-stands g c = record { desk = search rules; fits = tt; shelf = nothing_kept _ (search rules) (search rules) refl; covered = covers_none _ }

pub returns-clause-callers : goal.returns-clause-callers
returns-clause-callers g c = let its : c.in-Ok-new.desk.tickets.by_caller.items ≡ none_open c.args.callers = search rules in ap length its ∙ length_none c.args.callers
