-- Ids make no difference to routes and servers.
use Rattle.std.proofs.Common.{◌≡◌, ℕ, List, map, ap, refl, rules, ◌∙◌}
use Rattle.std.specs.Prelude.{codes}
use Rattle.std.specs.Str.{bytes_eq}
use Rattle.cd_tree.specs.declared.path.Path.{Path}
use Rattle.cd_tree.specs.declared.tree.Member.{Member}
use Rattle.cd_module.specs.Bare.{no_ids, SeesNoIds}
use Rattle.cd_module.specs.Settings.{Reader, list_of}
use Rattle.cd_module.proofs.Recursion.{▷-same}
use Rattle.cd_module.proofs.Bare.{bare_member, if_same, text-bare, truth-bare, number_or_text-bare, unread_list-bare, unread_object-bare, list_of-bare, members-bare, optional-bare, needed-bare, name_of-bare, object_of-bare, recursive-bare}
use Rattle.cd_match.proofs.Bare.{route_sets-bare}
use Rattle.cd_handlers.proofs.Bare.{handler-bare}
use Rattle.cd_routes.specs.Names.{subroute_name}
use Rattle.cd_handlers.specs.Invoke.{invoked}
use Rattle.cd_routes.specs.Reading.{routes, route, step, tested_handler, name_tested, subroute, error_routes, known_name, known_names, names_or_none, named_route, named_routes_read}
use Rattle.cd_routes.specs.declared.named.KnownName.{KnownName}
use Rattle.cd_routes.specs.declared.named.NamedRoute.{NamedRoute}
use Rattle.cd_routes.specs.Server.{listen_text, listen, timeouts, protocols, server, server_members}
use Rattle.cd_routes.specs.declared.route.Route.{Route}
use Rattle.cd_routes.proofs.Routes.{routes-inward}

-- ---- routes

error_routes-bare : (inner : Reader (List Route)) → SeesNoIds inner → SeesNoIds (error_routes inner)
unfolding error_routes
error_routes-bare inner s = search (rules, members-bare, ▷-same, optional-bare)

subroute-bare : (inner : Reader (List Route)) → SeesNoIds inner → SeesNoIds (subroute inner)
unfolding subroute
subroute-bare inner s = search (rules, members-bare, ▷-same, optional-bare, error_routes-bare)

tested_handler-bare : (known : List KnownName) → SeesNoIds (tested_handler known)
unfolding tested_handler
tested_handler-bare known = record { same = λ t at. ▷-same _ _ _ _ (handler-bare.same t at) (λ h. refl) }

step-bare : (known : List KnownName) (inner : Reader (List Route)) → SeesNoIds inner → SeesNoIds (step known inner)
unfolding step
step-bare known inner s = record {
  same = λ t at. ▷-same _ _ _ _ ((name_of-bare (codes "handler") refl).same t at) (λ name.
      if_same (bytes_eq name subroute_name) _ _ _ _
      (▷-same _ _ _ _ ((subroute-bare inner s).same t at) (λ s. refl))
      ((tested_handler-bare known).same t at));
}

route-bare : (known : List KnownName) (inner : Reader (List Route)) → SeesNoIds inner → SeesNoIds (route known inner)
unfolding route
route-bare known inner s = search (rules, members-bare, ▷-same, optional-bare, text-bare, route_sets-bare, list_of-bare, step-bare, truth-bare)

pub routes-bare : (known : List KnownName) → SeesNoIds (routes known)
unfolding routes
routes-bare known = recursive-bare (λ inner. list_of (route known inner)) (routes-inward known) (λ inner s. list_of-bare (route known inner) (route-bare known inner s))

-- ---- named routes

known_name-bare : (name : List ℕ) → SeesNoIds (known_name name)
known_name-bare name = record { same = λ t at. refl }

known-bare : (ms : List Member) (at : Path) → known_names (no_ids (map bare_member ms)) at ≡ known_names ms at
unfolding known_names
known-bare ms at = ap names_or_none (optional-bare _ (object_of-bare known_name known_name-bare) (codes "named_routes") refl ms at)

named_route-bare : (known : List KnownName) (name : List ℕ) → SeesNoIds (named_route known name)
unfolding named_route
named_route-bare known name = record { same = λ t at. ▷-same _ _ _ _ ((route-bare known (routes known) (routes-bare known)).same t at) (λ r. refl) }

named_routes-bare : (known : List KnownName) → SeesNoIds (named_routes_read known)
named_routes-bare known = object_of-bare (named_route known) (named_route-bare known)

-- ---- servers

listen_text-bare : SeesNoIds listen_text
unfolding listen_text
listen_text-bare = record { same = λ t at. ▷-same _ _ _ _ (text-bare.same t at) (λ written. refl) }

listen-bare : SeesNoIds listen
unfolding listen
listen-bare = record { same = λ t at. ▷-same _ _ _ _ ((list_of-bare listen_text listen_text-bare).same t at) (λ texts. refl) }

-- members without an effect
timeouts-bare : (ms : List Member) (at : Path) → timeouts (no_ids (map bare_member ms)) at ≡ timeouts ms at
unfolding timeouts
timeouts-bare ms at = search (rules, ▷-same, optional-bare, number_or_text-bare)

protocols-bare : (ms : List Member) (at : Path) → protocols (no_ids (map bare_member ms)) at ≡ protocols ms at
unfolding protocols
protocols-bare ms at = search (rules, ▷-same, optional-bare, unread_object-bare, unread_list-bare, truth-bare)

members_of_server-bare : (name : List ℕ) (known : List KnownName) (ms : List Member) (at : Path) → server_members name known (no_ids (map bare_member ms)) at ≡ server_members name known ms at
unfolding server_members
members_of_server-bare name known ms at = search (rules, ▷-same, needed-bare, listen-bare, optional-bare, routes-bare, error_routes-bare, named_routes-bare, unread_object-bare, timeouts-bare, protocols-bare)

pub server-bare : (name : List ℕ) → SeesNoIds (server name)
unfolding server
server-bare name = record {
  same = λ t at. members-bare _ t at _ _ (λ ms.
      ap (λ known. server_members name known (no_ids (map bare_member ms)) at) (known-bare ms at) ∙ members_of_server-bare name (known_names ms at) ms at);
}
