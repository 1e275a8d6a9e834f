use Rattle.std.proofs.Common.{◌≡◌, None, []}
use Rattle.cd_pair.specs.Passes.{Has}
use Rattle.cd_hall_cases.proofs.threads.reload_in_turn.Given as goal

abbrev pub invariant-loop-turn : goal.invariant-loop-turn
invariant-loop-turn g l = (l.on ≡ l.fn.on) × Has l.on.hall.now l.pass 0 None None []
