use Rattle.cd_routes.proofs.Equations.{run_handler_is, run_subroute_is}
use Rattle.cd_routes.proofs.laws.a_step_does.Goals as goal

pub returns-clause-handler : goal.returns-clause-handler
returns-clause-handler c = λ named. run_handler_is named c.args.handler.now

pub returns-clause-subroute : goal.returns-clause-subroute
returns-clause-subroute c = λ named. run_subroute_is named c.args.subroute.now
