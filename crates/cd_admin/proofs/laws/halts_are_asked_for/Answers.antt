use Rattle.cd_admin.proofs.Halts.{halts}
use Rattle.cd_admin.proofs.Stops.{posts_to_stop}
use Rattle.cd_admin.proofs.laws.halts_are_asked_for.Goals as goal

pub returns-clause-asked : goal.returns-clause-asked
returns-clause-asked g c = halts g.M.ModuleSet.plan g.met.M.ModuleSet.sure

pub returns-clause-stop : goal.returns-clause-stop
returns-clause-stop g c = posts_to_stop
