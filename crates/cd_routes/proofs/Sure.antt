-- No settings of routes and servers lack memory to be read.
use Rattle.std.proofs.Common.{◌≡◌, ℕ, true, List, [], ◌∷◌, refl, Option, Some, None, Result, Ok, Err, rules}
use Rattle.std.specs.Prelude.{codes}
use Rattle.std.specs.Str.{bytes_eq}
use Rattle.cd_tree.specs.declared.path.Path.{Path}
use Rattle.cd_tree.specs.declared.tree.Member.{Member}
use Rattle.cd_addr.specs.Addresses.{range_of}
use Rattle.cd_addr.specs.declared.range.AddressRange.{AddressRange}
use Rattle.cd_addr.specs.declared.fault.AddrFault.{AddrFault}
use Rattle.cd_addr.specs.declared.fault.AddrFault.TheVariants as address
use Rattle.cd_addr.proofs.Sure.{range_of-sure, is_said as is_read}
use Rattle.cd_module.specs.Settings.{Reader, list_of, text, name_of, members}
use Rattle.cd_module.proofs.Sure.{is_said, IsSure, then-sure, if-sure, text-sure, truth-sure, number_or_text-sure, unread_list-sure, unread_object-sure, list_of-sure, members-sure, optional-sure, needed-sure, name_of-sure, object_of-sure, recursive-sure}
use Rattle.cd_match.proofs.Sure.{route_sets-sure}
use Rattle.cd_handlers.specs.Handlers.{handler}
use Rattle.cd_handlers.specs.Invoke.{invoked}
use Rattle.cd_handlers.proofs.Sure.{handler-sure}
use Rattle.cd_routes.specs.Names.{subroute_name}
use Rattle.cd_routes.specs.Reading.{routes, route, step, tested_handler, is_known, name_tested, subroute, error_routes, known_names, named_route, named_routes_read}
use Rattle.cd_routes.specs.Server.{placed, some_text, listen_text, listen, timeouts, protocols, server, server_members}
use Rattle.cd_routes.specs.declared.listen.ListenText.{ListenText}
use Rattle.cd_routes.specs.declared.named.KnownName.{KnownName}
use Rattle.cd_routes.specs.declared.route.Route.{Route}
use Rattle.cd_routes.proofs.Routes.{routes-inward}

-- ---- routes

error_routes-sure : (inner : Reader (List Route)) → IsSure inner → IsSure (error_routes inner)
unfolding error_routes
error_routes-sure inner s = search (rules, members-sure, then-sure, optional-sure)

subroute-sure : (inner : Reader (List Route)) → IsSure inner → IsSure (subroute inner)
unfolding subroute
subroute-sure inner s = search (rules, members-sure, then-sure, optional-sure, error_routes-sure)

name_tested-sure : (known : List KnownName) (name : Option (List ℕ)) (at : Path) → is_said (name_tested known name at) ≡ true
name_tested-sure known None at = refl
name_tested-sure known (Some name) at = if-sure (is_known known name) _ _ refl refl

tested_handler-sure : (known : List KnownName) → IsSure (tested_handler known)
unfolding tested_handler
tested_handler-sure known = record { sure = λ t at. then-sure (handler t at) _ (handler-sure.sure t at) (λ h. then-sure (name_tested known (invoked h) at) _ (name_tested-sure known (invoked h) at) (λ u. refl)) }

step-sure : (known : List KnownName) (inner : Reader (List Route)) → IsSure inner → IsSure (step known inner)
unfolding step
step-sure known inner s = record {
  sure = λ t at. then-sure (name_of (codes "handler") t at) _ ((name_of-sure (codes "handler")).sure t at) (λ name.
      if-sure (bytes_eq name subroute_name) _ _
      (then-sure (subroute inner t at) _ ((subroute-sure inner s).sure t at) (λ s. refl))
      ((tested_handler-sure known).sure t at));
}

route-sure : (known : List KnownName) (inner : Reader (List Route)) → IsSure inner → IsSure (route known inner)
unfolding route
route-sure known inner s = search (rules, members-sure, then-sure, optional-sure, text-sure, route_sets-sure, list_of-sure, step-sure, truth-sure)

pub routes-sure : (known : List KnownName) → IsSure (routes known)
unfolding routes
routes-sure known = recursive-sure (λ inner. list_of (route known inner)) (routes-inward known) (λ inner s. list_of-sure (route known inner) (route-sure known inner s))

-- ---- named routes

named_route-sure : (known : List KnownName) (name : List ℕ) → IsSure (named_route known name)
unfolding named_route
named_route-sure known name = record { sure = λ t at. then-sure (route known (routes known) t at) _ ((route-sure known (routes known) (routes-sure known)).sure t at) (λ r. refl) }

named_routes-sure : (known : List KnownName) → IsSure (named_routes_read known)
named_routes-sure known = object_of-sure (named_route known) (named_route-sure known)

-- ---- servers

placed-sure : (r : Result AddressRange AddrFault) (at : Path) → is_read r ≡ true → is_said (placed r at) ≡ true
placed-sure (Ok range) at e = refl
placed-sure (Err address.BadNetwork) at e = refl
placed-sure (Err address.BadPort) at e = refl
placed-sure (Err address.BadRange) at e = refl
placed-sure (Err address.NoMemory) at e = cc

listen_text-sure : IsSure listen_text
unfolding listen_text
listen_text-sure = record { sure = λ t at. then-sure (text t at) _ (text-sure.sure t at) (λ written. placed-sure (range_of written) at (range_of-sure written)) }

some_text-sure : (texts : List ListenText) (at : Path) → is_said (some_text texts at) ≡ true
some_text-sure [] at = refl
some_text-sure (first ∷ others) at = refl

pub listen-sure : IsSure listen
unfolding listen
listen-sure = record { sure = λ t at. then-sure (list_of listen_text t at) _ ((list_of-sure listen_text listen_text-sure).sure t at) (λ texts. some_text-sure texts at) }

-- members without an effect
timeouts-sure : (ms : List Member) (at : Path) → is_said (timeouts ms at) ≡ true
unfolding timeouts
timeouts-sure ms at = search (rules, then-sure, optional-sure, number_or_text-sure)

protocols-sure : (ms : List Member) (at : Path) → is_said (protocols ms at) ≡ true
unfolding protocols
protocols-sure ms at = search (rules, then-sure, optional-sure, unread_object-sure, unread_list-sure, truth-sure)

members_of_server-sure : (name : List ℕ) (known : List KnownName) (ms : List Member) (at : Path) → is_said (server_members name known ms at) ≡ true
unfolding server_members
members_of_server-sure name known ms at = search (rules, then-sure, needed-sure, listen-sure, optional-sure, routes-sure, error_routes-sure, named_routes-sure, unread_object-sure, timeouts-sure, protocols-sure)

pub server-sure : (name : List ℕ) → IsSure (server name)
unfolding server
server-sure name = record { sure = λ t at. then-sure (members _ t at) _ (members-sure _ t at) (λ ms. members_of_server-sure name (known_names ms at) ms at) }
