-- What is still to be done, as the code keeps it: the last item comes first.
use Rattle.std.specs.Prelude.{ℕ, ◌+◌, suc, List, [], ◌∷◌, fold, length, map, Option, Some, None, option_map}
use Rattle.cd_handlers.specs.declared.changes.FilledChanges.{FilledChanges}
use Rattle.std.specs.List.{slice_get}
use Rattle.cd_leads.specs.Depth.{to_depth}
use Rattle.cd_handlers.specs.Invoke.{invoked}
use Rattle.cd_routes.specs.Invoking.{place_of, route_names}
use Rattle.cd_routes.specs.Named.{by_name}
use Rattle.cd_routes.specs.Running.{Middleware, Named, nothing_left, run_routes, run_steps, with_changes}
use Rattle.cd_routes.specs.declared.named.NamedRoute.{NamedRoute}
use Rattle.cd_routes.specs.declared.outcome.Outcome.{Outcome}
use Rattle.cd_routes.specs.declared.route.Route.{Route, Route-F, fold-Route}
use Rattle.cd_routes.specs.declared.route.Step.{Step, fold-Step}
use Rattle.cd_routes.specs.declared.route.Step.TheOpen.{Step-F, Subroute-F}
use Rattle.cd_routes.specs.declared.route.Subroute.{Subroute}
use Rattle.cd_routes.specs.declared.work.Progress.{Progress}
use Rattle.cd_routes.specs.declared.work.Progress.TheVariants.{Goes, Leaves, Ends}
use Rattle.cd_routes.specs.declared.work.Work.{Work}
use Rattle.cd_routes.specs.declared.work.Work.TheVariants.{Routes, Steps}
use Rattle.cd_fill.specs.declared.scene.Scene.{Scene}

-- an item does to what follows it what its routes or its steps do
abbrev pub item_done : Named → Work → Middleware
item_done named (Routes routes) = run_routes named routes.now
item_done named (Steps steps) = run_steps named steps.now

-- what becomes of a scene that all this is done with
unfoldable pub done : Named → List Work → Scene → Outcome
done named work = fold (λ rest item. item_done named item rest) nothing_left work

-- changes that handlers left, of which the last comes first
unfoldable pub all_changes : List FilledChanges → Outcome → Outcome
all_changes [] outcome = outcome
all_changes (changes ∷ later) outcome = with_changes (Some changes) (all_changes later outcome)

-- what becomes of a request from here on
abbrev pub told : Named → Progress → Outcome
told named (Goes work x) = done named work.items x
told named (Leaves changes work x) = with_changes (Some changes) (done named work.items x)
told named (Ends outcome) = outcome

-- ---- how much there is to do

-- all of a list, and one for the end of the list
abbrev pub total : List ℕ → ℕ
total [] = 1
total (n ∷ ns) = n + total ns

abbrev pub errors_weight : Option (List ℕ) → ℕ
errors_weight None = 0
errors_weight (Some ns) = total ns

-- what each name weighs
abbrev pub Weights : Type 0
Weights = List ℕ → ℕ

-- an `invoke` weighs what its named route does, and more
abbrev pub handler_weight : Weights → Option (List ℕ) → ℕ
handler_weight named None = 2
handler_weight named (Some name) = 2 + named name

-- one level, with the weight of what is inside in its place
abbrev pub step_weight_level : Weights → Step-F ℕ ℕ ℕ → ℕ
step_weight_level named (Step-F.Handler handler) = handler_weight named (invoked handler)
step_weight_level named (Step-F.Subroute n) = 1 + n

abbrev pub route_weight_level : Route-F ℕ ℕ ℕ → ℕ
route_weight_level r = 1 + total r.handle

abbrev pub subroute_weight_level : Subroute-F ℕ ℕ ℕ → ℕ
subroute_weight_level s = total s.routes + errors_weight s.errors

unfoldable pub route_weight : Weights → Route → ℕ
route_weight named = fold-Route ℕ ℕ ℕ (step_weight_level named) route_weight_level subroute_weight_level

unfoldable pub step_weight : Weights → Step → ℕ
step_weight named = fold-Step ℕ ℕ ℕ (step_weight_level named) route_weight_level subroute_weight_level

abbrev pub subroute_weight : Weights → Subroute-F Step Route Subroute → ℕ
subroute_weight named s = 1 + (total (map (route_weight named) s.routes) + errors_weight (option_map (map (route_weight named)) s.errors))

abbrev pub item_weight : Weights → Work → ℕ
item_weight named (Routes routes) = total (map (route_weight named) routes.now)
item_weight named (Steps steps) = total (map (step_weight named) steps.now)

unfoldable pub weight : Weights → List Work → ℕ
weight named work = fold (λ n item. n + item_weight named item) 0 work

-- how many turns of the loop there are left at most
abbrev pub weight_left : Weights → Progress → ℕ
weight_left named (Goes work x) = suc (weight named work.items)
weight_left named (Leaves changes work x) = suc (suc (weight named work.items))
weight_left named (Ends outcome) = 0

-- ---- what named routes weigh, in one another as deep as there are

abbrev pub named_weighs : Option NamedRoute → Weights → ℕ
named_weighs None named = 0
named_weighs (Some r) named = route_weight named r.route

abbrev pub weights_to : List NamedRoute → ℕ → ℕ → ℕ
weights_to named = to_depth (λ inner n. named_weighs (slice_get named n) (by_name (route_names named) inner)) 0

unfoldable pub named_weights : List NamedRoute → Weights
named_weights named name = weights_to named (length named) (place_of (route_names named) name)
