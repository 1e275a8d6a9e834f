use Rattle.std.proofs.Common.{◌≡◌, None, []}
use Rattle.cd_pair.specs.Passes.{Has}
use Rattle.cd_hall_cases.proofs.changes.reload_times.Given as goal

abbrev pub invariant-loop : goal.invariant-loop
invariant-loop g l = (l.on ≡ l.fn.on) × Has l.on.hall.now l.pass 0 None None []
