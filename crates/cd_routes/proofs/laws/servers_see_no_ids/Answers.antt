use Rattle.cd_module.proofs.Bare.{alike}
use Rattle.cd_routes.specs.Server.{server}
use Rattle.cd_routes.proofs.Bare.{server-bare}
use Rattle.cd_routes.proofs.laws.servers_see_no_ids.Goals as goal

pub returns : goal.returns
returns c = λ e. alike (server c.args.name.now) (server-bare c.args.name.now) c.args.tree.now c.args.other.now c.args.at.now e
