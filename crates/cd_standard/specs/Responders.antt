-- Who answers at an address of a compiled configuration, by the numbers of an app and of its server.
use Rattle.std.specs.Prelude.{◌≡◌, ℕ, List, Option, Some, None, slice_get}
use Rattle.std.specs.Option.{option_and_then}
use Rattle.cd_outside.specs.declared.address.Address.{Address}
use Rattle.cd_module_set.specs.declared.target.Responder.{Responder}
use Rattle.cd_module_set.specs.declared.target.Target.TheVariants.{App}
use Rattle.cd_standard.specs.Compiled.{app_servers, server_at, target_at}
use Rattle.cd_standard.specs.declared.compiled.Compiled.{Compiled}
use Rattle.cd_standard.specs.declared.compiled.CompiledApp.{CompiledApp}
use Rattle.cd_standard.specs.declared.compiled.CompiledServer.{CompiledServer}

-- the server with these numbers: that of the app, and its own among the app's servers
abbrev pub server_numbered : List CompiledApp → ℕ → ℕ → Option CompiledServer
server_numbered apps app server = option_and_then (λ a. slice_get (app_servers a) server) (slice_get apps app)

-- a responder of the configuration at an address: who answers there, and the numbers of the server there, where an app answers
pub record Responds (c : Compiled) (at : Address) (who : Responder) : Type 0 where
  pub target : who.target ≡ target_at c at
  pub server : who.target ≡ App → server_numbered c.apps who.app who.server ≡ server_at c at

-- the same as a relation
abbrev pub responds : Compiled → Address → Responder → Type 0
responds c at who = Responds c at who

-- what is found is the server with this number
abbrev pub IsNumber : List CompiledServer → Option CompiledServer → Option ℕ → Type 0
IsNumber servers found None = found ≡ None
IsNumber servers found (Some n) = (server : CompiledServer) × (found ≡ Some server) × (slice_get servers n ≡ Some server)

-- it is the server with a responder's numbers
abbrev pub AreNumbers : List CompiledApp → Option CompiledServer → Option Responder → Type 0
AreNumbers apps found None = found ≡ None
AreNumbers apps found (Some who) = (who.target ≡ App) × ((server : CompiledServer) × (found ≡ Some server) × (server_numbered apps who.app who.server ≡ Some server))
