-- Part of the main theorem.
-- The settings of the admin API, and the first fault there (Caddy, JSON Config Structure, `admin`).
use Rattle.std.specs.Prelude.{Bool, true, false, List, [], ◌∷◌, codes, Option, Some, None, unwrap_or, Result, Ok, Err}
use Rattle.cd_text.specs.Steps.{◌▷◌}
use Rattle.cd_tree.specs.declared.path.Path.{Path}
use Rattle.cd_tree.specs.declared.tree.Member.{Member}
use Rattle.cd_tree.specs.declared.tree.Tree.{Tree, out-Tree}
use Rattle.cd_tree.specs.declared.tree.Tree.TheOpen.{Tree-F}
use Rattle.cd_outside.specs.declared.address.Address.{Address}
use Rattle.cd_addr.specs.Addresses.{addresses}
use Rattle.cd_addr.specs.declared.fault.AddrFault.{AddrFault}
use Rattle.cd_module.specs.Faults.{refused}
use Rattle.cd_module.specs.Settings.{Reader, text, truth, list_of, members, optional}
use Rattle.cd_module.specs.declared.fault.LoadFault.{LoadFault}
use Rattle.cd_module.specs.declared.fault.LoadKind.TheVariants.{BadAddress}
use Rattle.cd_admin.specs.declared.admin.Admin.{Admin}
use Rattle.cd_admin.specs.declared.admin.AdminConfig.{AdminConfig}
use Rattle.cd_admin.specs.declared.admin.AdminListen.{AdminListen}

-- where it listens if nothing else is said
abbrev pub usual_address : Address
usual_address = record { host = codes "localhost"; port = 2019 }

-- it listens on one address alone
abbrev pub one_address : Result (List Address) AddrFault → Path → Result AdminListen LoadFault
one_address (Ok []) at = Err (refused BadAddress at)
one_address (Ok (address ∷ [])) at = Ok (record { address = address })
one_address (Ok (address ∷ other ∷ others)) at = Err (refused BadAddress at)
one_address (Err fault) at = Err (refused BadAddress at)

unfoldable pub admin_listen : Reader AdminListen
admin_listen t at = text t at ▷ λ written. one_address (addresses written) at

abbrev pub given_or_usual : Option AdminListen → Address
given_or_usual None = usual_address
given_or_usual (Some given) = given.address

-- configurations are kept, unless that is denied
unfoldable pub admin_config : Reader AdminConfig
admin_config t at =
    members (codes "persist") t at ▷ λ ms.
    optional truth (codes "persist") ms at ▷ λ persist.
    Ok (record { persist = unwrap_or persist true })

abbrev pub kept_unless_denied : Option AdminConfig → Bool
kept_unless_denied None = true
kept_unless_denied (Some config) = config.persist

-- origins are enforced only where that is said
unfoldable pub admin : Reader Admin
admin t at =
    members (codes "disabled listen enforce_origin origins config") t at ▷ λ ms.
    optional truth (codes "disabled") ms at ▷ λ disabled.
    optional admin_listen (codes "listen") ms at ▷ λ listen.
    optional truth (codes "enforce_origin") ms at ▷ λ enforced.
    optional (list_of text) (codes "origins") ms at ▷ λ origins.
    optional admin_config (codes "config") ms at ▷ λ config.
    Ok (record { disabled = unwrap_or disabled false; listen = given_or_usual listen; enforce_origin = unwrap_or enforced false; origins = origins; persist = kept_unless_denied config })

-- the admin API where nothing is said of it
abbrev pub usual_admin : Admin
usual_admin = record { disabled = false; listen = usual_address; enforce_origin = false; origins = None; persist = true }

abbrev pub admin_or_usual : Option Admin → Admin
admin_or_usual None = usual_admin
admin_or_usual (Some given) = given

-- ---- in a whole configuration

-- the members of an object; nothing else has any
abbrev pub members_layer : Tree-F Tree Member → List Member
members_layer Tree-F.Null = []
members_layer (Tree-F.Bool b) = []
members_layer (Tree-F.Num n) = []
members_layer (Tree-F.Text t) = []
members_layer (Tree-F.Items items) = []
members_layer (Tree-F.Object members) = members

-- what a configuration says of the admin API, or the first fault there
unfoldable pub admin_in : Tree → Result (Option Admin) LoadFault
admin_in t = optional admin (codes "admin") (members_layer (out-Tree t)) (record { parts = [] })

-- a configuration that is served has no fault there
abbrev pub unless_faulty : Result (Option Admin) LoadFault → Admin
unless_faulty (Ok given) = admin_or_usual given
unless_faulty (Err fault) = usual_admin

-- the settings of the admin API in a configuration
abbrev pub admin_of : Tree → Admin
admin_of t = unless_faulty (admin_in t)

-- a configuration is kept, so that it outlasts the program, unless it says that it is not to be
abbrev pub persists : Tree → Bool
persists t = (admin_of t).persist
