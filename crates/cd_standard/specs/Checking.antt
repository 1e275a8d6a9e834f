-- What has to be known of servers before they are checked.
use Rattle.std.specs.Prelude.{List}
use Rattle.cd_routes.specs.declared.server.Server.{Server}
use Rattle.cd_standard.specs.Loading.{HaveNoCycle}
use Rattle.cd_standard.specs.declared.checks.Check.{Check}
use Rattle.cd_standard.specs.declared.checks.Check.TheVariants.{NamedRoutes, ErrorSubroutes, ExpandedRoutes}

-- nothing is counted where a named route may lead to itself
abbrev pub MayCheck : Check → List Server → Type 0
MayCheck NamedRoutes servers = Unit {0}
MayCheck ErrorSubroutes servers = HaveNoCycle servers
MayCheck ExpandedRoutes servers = HaveNoCycle servers
