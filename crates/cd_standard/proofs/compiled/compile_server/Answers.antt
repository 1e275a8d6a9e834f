use Rattle.std.proofs.Common.{refl}
use Rattle.cd_standard.proofs.Alike.{server_alike}
use Rattle.cd_standard.proofs.compiled.compile_server.Goals as goal

pub returns : goal.returns
returns c =
    let server = c.args.server in
    server_alike server (record { name = server.name; listen = server.listen; chain = c.in_ok-chain.chain; logs = server.logs }) refl refl refl c.in_ok-chain.ensures
