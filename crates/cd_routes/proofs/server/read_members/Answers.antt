use Rattle.std.proofs.Common.{rules}
use Rattle.cd_routes.specs.Server.{server_members}
use Rattle.cd_routes.proofs.server.read_members.Goals as goal

pub returns : goal.returns
unfolding server_members
returns c = rw (c.in_ok-listen.ensures, c.in_ok-routes.ensures, c.in_ok-errors.ensures, c.in_ok-named.ensures, c.in_ok-logs.ensures, c.in_ok-read_timeouts.ensures, c.in_ok-read_protocols.ensures) (search rules)
