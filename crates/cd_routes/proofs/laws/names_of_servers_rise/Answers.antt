use Rattle.cd_routes.proofs.Rising.{names_rise_there}
use Rattle.cd_routes.proofs.laws.names_of_servers_rise.Goals as goal

pub returns : goal.returns
returns c = names_rise_there c.args.tree.now c.args.at.now
