-- Part of the main theorem.
-- A server in a configuration, and the first fault there (Caddy, JSON Config Structure, http.servers).
use Rattle.std.specs.Prelude.{ℕ, ◌&&◌, Bool, true, List, [], ◌∷◌, map, codes, is_some, unwrap_or, Result, Ok, Err}
use Rattle.std.specs.List.{flat_map, list_all}
use Rattle.cd_text.specs.Steps.{◌▷◌}
use Rattle.cd_tree.specs.Tree.{is_below}
use Rattle.cd_tree.specs.declared.path.Path.{Path}
use Rattle.cd_tree.specs.declared.tree.Member.{Member}
use Rattle.cd_outside.specs.declared.address.Address.{Address}
use Rattle.cd_addr.specs.Addresses.{range_of, listed}
use Rattle.cd_addr.specs.declared.range.AddressRange.{AddressRange}
use Rattle.cd_addr.specs.declared.fault.AddrFault.{AddrFault}
use Rattle.cd_addr.specs.declared.fault.AddrFault.TheVariants as address
use Rattle.cd_module.specs.Faults.{refused}
use Rattle.cd_module.specs.Settings.{Reader, text, truth, number_or_text, unread_list, unread_object, list_of, members, needed, optional}
use Rattle.cd_module.specs.declared.fault.LoadFault.{LoadFault}
use Rattle.cd_module.specs.declared.fault.LoadFault.TheVariants.{NoMemory}
use Rattle.cd_module.specs.declared.fault.LoadKind.TheVariants.{Missing, BadAddress}
use Rattle.cd_routes.specs.Reading.{routes, error_routes, known_names, named_routes_read}
use Rattle.cd_routes.specs.declared.listen.Listen.{Listen}
use Rattle.cd_routes.specs.declared.listen.ListenText.{ListenText}
use Rattle.cd_routes.specs.declared.named.KnownName.{KnownName}
use Rattle.cd_routes.specs.declared.server.Server.{Server}

-- ---- what it listens on

-- a text that names no addresses
abbrev pub no_address : AddrFault → Path → LoadFault
no_address address.BadNetwork at = refused BadAddress at
no_address address.BadPort at = refused BadAddress at
no_address address.BadRange at = refused BadAddress at
no_address address.NoMemory at = NoMemory

-- the range, with the place of its text
abbrev pub placed : Result AddressRange AddrFault → Path → Result ListenText LoadFault
placed (Ok range) at = Ok (record { range = range; at = at })
placed (Err fault) at = Err (no_address fault at)

-- an element of `listen`
unfoldable pub listen_text : Reader ListenText
listen_text t at = text t at ▷ λ written. placed (range_of written) at

-- there is one text at least
abbrev pub some_text : List ListenText → Path → Result Listen LoadFault
some_text [] at = Err (refused Missing at)
some_text (first ∷ others) at = Ok (record { texts = first ∷ others })

-- what a server listens on: element by element
unfoldable pub listen : Reader Listen
listen t at = list_of listen_text t at ▷ λ texts. some_text texts at

-- all its addresses, in order
abbrev pub listened : Listen → List Address
listened l = flat_map (λ text. listed text.range) l.texts

-- ---- the members without an effect, which are of their kind

unfoldable pub timeouts : List Member → Path → Result (Unit {0}) LoadFault
timeouts ms at =
    optional number_or_text (codes "read_timeout") ms at ▷ λ _.
    optional number_or_text (codes "read_header_timeout") ms at ▷ λ _.
    optional number_or_text (codes "write_timeout") ms at ▷ λ _.
    optional number_or_text (codes "idle_timeout") ms at ▷ λ _.
    optional number_or_text (codes "keepalive_interval") ms at ▷ λ _.
    optional number_or_text (codes "max_header_bytes") ms at ▷ λ _.
    Ok tt

unfoldable pub protocols : List Member → Path → Result (Unit {0}) LoadFault
protocols ms at =
    optional unread_object (codes "automatic_https") ms at ▷ λ _.
    optional unread_list (codes "protocols") ms at ▷ λ _.
    optional truth (codes "strict_sni_host") ms at ▷ λ _.
    Ok tt

-- ---- the whole

-- its members, where these are the names of its named routes; of `logs` only whether it is there has an effect
unfoldable pub server_members : List ℕ → List KnownName → List Member → Path → Result Server LoadFault
server_members name known ms at =
    needed listen (codes "listen") ms at ▷ λ addresses.
    optional (routes known) (codes "routes") ms at ▷ λ found.
    optional (error_routes (routes known)) (codes "errors") ms at ▷ λ errors.
    optional (named_routes_read known) (codes "named_routes") ms at ▷ λ named.
    optional unread_object (codes "logs") ms at ▷ λ logs.
    timeouts ms at ▷ λ _.
    protocols ms at ▷ λ _.
    Ok (record { name = name; listen = addresses; routes = unwrap_or found []; errors = errors; named = unwrap_or named []; logs = is_some logs })

-- a server of that name
unfoldable pub server : List ℕ → Reader Server
server name t at =
    members (codes "listen routes errors named_routes logs read_timeout read_header_timeout write_timeout idle_timeout keepalive_interval max_header_bytes automatic_https protocols strict_sni_host") t at ▷ λ ms.
    server_members name (known_names ms at) ms at

-- ---- names

abbrev pub names_of : List Server → List (List ℕ)
names_of servers = map (λ s. s.name) servers

-- each name is below those after it
abbrev pub names_rise : List (List ℕ) → Bool
names_rise [] = true
names_rise (name ∷ names) = list_all (is_below name) names && names_rise names
