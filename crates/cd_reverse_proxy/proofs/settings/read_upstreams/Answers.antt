use Rattle.std.proofs.Common.{arith}
use Rattle.cd_reverse_proxy.proofs.Words.{each-length}
use Rattle.cd_reverse_proxy.proofs.settings.read_upstreams.Goals as goal

pub returns-clause-few : goal.returns-clause-few
returns-clause-few c =
    let count = each-length c.args.pairs.now c.in_ok-found.found c.in_ok-found.ensures in
    omega (arith, count, c.if-pairs.false)
