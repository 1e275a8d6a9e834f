use Rattle.cd_routes.proofs.Halves.{found, there_found, none_found}
use Rattle.cd_routes.proofs.name_list.place_by_halves.Goals as goal

pub returns-in-Ok : goal.returns-in-Ok
returns-in-Ok c = there_found c.args.names.now c.args.name.now c.binary_search.result _ c.in-Ok.is (found c.args.names.now c.args.name.now c.binary_search.result c.requires c.binary_search.ensures.bound c.binary_search.ensures.position)

pub returns-in-Err : goal.returns-in-Err
returns-in-Err c = none_found c.args.names.now c.args.name.now c.binary_search.result _ c.in-Err.is (found c.args.names.now c.args.name.now c.binary_search.result c.requires c.binary_search.ensures.bound c.binary_search.ensures.position)
