-- Part of the main theorem.
-- A whole configuration in a tree, and the first fault there (Caddy, JSON Config Structure).
use Rattle.std.specs.Prelude.{ℕ, if◌then◌else◌, List, [], codes, Option, Some, None, Ok, Err}
use Rattle.std.specs.Str.{bytes_eq}
use Rattle.cd_text.specs.Steps.{◌▷◌}
use Rattle.cd_module.specs.Faults.{unknown_module}
use Rattle.cd_module.specs.Settings.{Reader, number_or_text, members, optional, needed, object_of}
use Rattle.cd_admin.specs.Admin.{admin, admin_or_usual}
use Rattle.cd_log.specs.Logging.{logging, logs_given}
use Rattle.cd_routes.specs.Server.{server, listen}
use Rattle.cd_routes.specs.declared.server.Server.{Server}
use Rattle.cd_standard.specs.declared.app.App.{App}
use Rattle.cd_standard.specs.declared.app.App.TheVariants as kind
use Rattle.cd_standard.specs.declared.configuration.Apps.{Apps}
use Rattle.cd_standard.specs.declared.configuration.Configuration.{Configuration}
use Rattle.cd_standard.specs.declared.echo.Echo.{Echo}
use Rattle.cd_standard.specs.declared.http.Http.{Http}
use Rattle.cd_standard.specs.declared.http.Servers.{Servers}

-- ---- apps

unfoldable pub echo : Reader Echo
echo t at =
    members (codes "listen") t at ▷ λ ms.
    needed listen (codes "listen") ms at ▷ λ addresses.
    Ok (record { listen = addresses })

-- the servers by rising name
unfoldable pub servers : Reader Servers
servers t at = object_of server t at ▷ λ found. Ok (record { servers = found })

abbrev pub servers_or_none : Option Servers → List Server
servers_or_none None = []
servers_or_none (Some found) = found.servers

unfoldable pub http : Reader Http
http t at =
    members (codes "http_port https_port grace_period shutdown_delay servers") t at ▷ λ ms.
    optional number_or_text (codes "http_port") ms at ▷ λ _.
    optional number_or_text (codes "https_port") ms at ▷ λ _.
    optional number_or_text (codes "grace_period") ms at ▷ λ _.
    optional number_or_text (codes "shutdown_delay") ms at ▷ λ _.
    optional servers (codes "servers") ms at ▷ λ found.
    Ok (record { servers = servers_or_none found })

-- an app by its name
unfoldable pub app : List ℕ → Reader App
app name t at =
    if bytes_eq name (codes "echo") then (echo t at ▷ λ found. Ok (kind.Echo found)) else
    (if bytes_eq name (codes "http") then (http t at ▷ λ found. Ok (kind.Http found)) else
    Err (unknown_module name at))

-- the apps by rising name
unfoldable pub apps : Reader Apps
apps t at = object_of app t at ▷ λ found. Ok (record { apps = found })

abbrev pub apps_or_none : Option Apps → List App
apps_or_none None = []
apps_or_none (Some found) = found.apps

-- ---- the whole

unfoldable pub configuration : Reader Configuration
configuration t at =
    members (codes "admin apps logging") t at ▷ λ ms.
    optional admin (codes "admin") ms at ▷ λ given.
    optional apps (codes "apps") ms at ▷ λ found.
    optional logging (codes "logging") ms at ▷ λ said.
    Ok (record { admin = admin_or_usual given; apps = apps_or_none found; logs = logs_given said })
