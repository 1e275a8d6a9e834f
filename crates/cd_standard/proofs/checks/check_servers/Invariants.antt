use Rattle.std.proofs.Common.{◌≡◌, drop}
use Rattle.cd_standard.specs.Checking.{MayCheck}
use Rattle.cd_standard.specs.Loading.{each_checked}
use Rattle.cd_standard.proofs.checks.check_servers.Given as goal

abbrev pub invariant-loop-server : goal.invariant-loop-server
invariant-loop-server l = record {
  same : each_checked l.check l.servers ≡ each_checked l.check (drop l.server-index l.servers);
  may : MayCheck l.check (drop l.server-index l.servers);
}
