use Rattle.std.proofs.Common.{◌≡◌, [], arith}
use Rattle.std.proofs.lemmas.Grind.{common_steps}
use Rattle.cd_proxy.proofs.Telling.{nothing_put}
use Rattle.cd_proxy.proofs.exchanges.put.Goals as goal

pub returns-then-is_empty-clause-past : goal.returns-then-is_empty-clause-past
returns-then-is_empty-clause-past g c =
    let none : [] ≡ c.args.bytes.now = grind (arith, common_steps) in
    ([], none, nothing_put (g.P.Peers.past c.args.peers.now))
