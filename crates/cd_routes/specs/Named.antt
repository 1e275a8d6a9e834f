-- Part of the main theorem.
-- What named routes do: each is done where it is invoked, with those that it invokes in its turn.
use Rattle.std.specs.Prelude.{ℕ, List, length, Option, Some, None}
use Rattle.std.specs.List.{slice_get}
use Rattle.cd_leads.specs.Depth.{to_depth}
use Rattle.cd_routes.specs.Invoking.{Names, place_of, route_names}
use Rattle.cd_routes.specs.Running.{Middleware, Named, run_route}
use Rattle.cd_routes.specs.declared.named.NamedRoute.{NamedRoute}

-- what each name stands for, by its place
abbrev pub by_name : {A : Type 0} → Names → (ℕ → A) → List ℕ → A
by_name names inner name = inner (place_of names name)

-- what has no route does nothing
abbrev pub passes : Middleware
passes rest = rest

-- a named route, where those that it invokes do this
abbrev pub named_does : Option NamedRoute → Named → Middleware
named_does None named = passes
named_does (Some r) named = run_route named r.route

-- named routes in one another to a depth; deeper, none does anything
abbrev pub named_to : List NamedRoute → ℕ → ℕ → Middleware
named_to named = to_depth (λ inner n. named_does (slice_get named n) (by_name (route_names named) inner)) passes

-- none is deeper in others than there are named routes, unless one leads to itself
unfoldable pub named_routes : List NamedRoute → Named
named_routes named name = named_to named (length named) (place_of (route_names named) name)
