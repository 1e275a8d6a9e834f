-- Part of the main theorem.
-- What there may be only so much of in a configuration.
use Rattle.std.specs.Prelude.{ℕ, List, codes}
use Rattle.cd_module.specs.declared.limits.Limit.{Limit}
use Rattle.cd_module.specs.declared.limits.Limit.TheVariants.{Modules, Addresses, Servers, ErrorSubroutes, ExpandedRoutes}
use Rattle.cd_module.specs.declared.limits.TheConstants.{MAX_MODULES, MAX_ADDRESSES, MAX_SERVERS, MAX_ERROR_SUBROUTES, MAX_EXPANDED_ROUTES}

-- how much there may be
abbrev pub most : Limit → ℕ
most Modules = MAX_MODULES
most Addresses = MAX_ADDRESSES
most Servers = MAX_SERVERS
most ErrorSubroutes = MAX_ERROR_SUBROUTES
most ExpandedRoutes = MAX_EXPANDED_ROUTES

-- the words for it in a refusal
abbrev pub named : Limit → List ℕ
named Modules = codes "modules"
named Addresses = codes "addresses"
named Servers = codes "servers"
named ErrorSubroutes = codes "error subroutes"
named ExpandedRoutes = codes "expanded routes"
