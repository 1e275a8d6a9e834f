-- What is checked of servers, app by app, and what is known of named routes after that.
use Rattle.std.proofs.Common.{◌≡◌, ℕ, ◌+◌, ◌<◌, List, [], ◌∷◌, ◌++◌, length, get_or, drop, refl, sym, ap, ◌∙◌, option_map}
use Rattle.std.specs.Prelude.{Option, Some, None, Result, Ok, Err}
use Rattle.std.specs.List.{flat_map}
use Rattle.std.proofs.lemmas.List.Concat.{flat_map-cons}
use Rattle.cd_tree.proofs.Trees.{drop-element}
use Rattle.cd_text.specs.Steps.{◌▷◌}
use Rattle.cd_leads.specs.Leads.{least_in_cycle}
use Rattle.cd_module.specs.declared.fault.LoadFault.{LoadFault}
use Rattle.cd_routes.specs.Invoking.{HasNoCycle, first_in_cycle, leads_of}
use Rattle.cd_routes.specs.declared.server.Server.{Server}
use Rattle.cd_standard.specs.Checking.{MayCheck}
use Rattle.cd_standard.specs.Loading.{app_servers, checked, cycle_fault, each_checked, HaveNoCycle}
use Rattle.cd_standard.specs.declared.app.App.{App}
use Rattle.cd_standard.specs.declared.checks.Check.{Check}
use Rattle.cd_standard.specs.declared.checks.Check.TheVariants.{NamedRoutes, ErrorSubroutes, ExpandedRoutes}

-- ---- one after another

grouped : (r : Result (Unit {0}) LoadFault) (a b c : Result (Unit {0}) LoadFault) → a ≡ (b ▷ λ _. c) → (r ▷ λ _. a) ≡ ((r ▷ λ _. b) ▷ λ _. c)
grouped (Ok x) a b c is = is
grouped (Err e) a b c is = refl

each_more : (what : Check) (xs ys : List Server) → each_checked what (xs ++ ys) ≡ (each_checked what xs ▷ λ _. each_checked what ys)
each_more what [] ys = refl
each_more what (x ∷ xs) ys = grouped (checked what x) _ _ _ (each_more what xs ys)

-- what an app comes to, and then those after it
pub each_left : (what : Check) (apps : List App) (i : ℕ) (app : App) → i < length apps → app ≡ get_or apps i app
    → each_checked what (flat_map app_servers (drop i apps)) ≡ (each_checked what (app_servers app) ▷ λ _. each_checked what (flat_map app_servers (drop (i + 1) apps)))
each_left what apps i app within is =
    ap (each_checked what) (ap (flat_map app_servers) (drop-element apps i app within is) ∙ flat_map-cons app_servers app (drop (i + 1) apps))
    ∙ each_more what (app_servers app) (flat_map app_servers (drop (i + 1) apps))

-- ---- what may be checked

both_fine : (r s : Result (Unit {0}) LoadFault) → (r ▷ λ _. s) ≡ Ok tt → (r ≡ Ok tt) × (s ≡ Ok tt)
both_fine (Ok x) s is = (refl, is)
both_fine (Err fault) s is = cc

abbrev MayCheckBoth : Check → List Server → List Server → Type 0
MayCheckBoth what xs ys = MayCheck what xs × MayCheck what ys

pub may_left : (what : Check) (apps : List App) (i : ℕ) (app : App) → i < length apps → app ≡ get_or apps i app → MayCheck what (flat_map app_servers (drop i apps))
    → MayCheckBoth what (app_servers app) (flat_map app_servers (drop (i + 1) apps))
may_left NamedRoutes apps i app within is may = (tt, tt)
may_left ErrorSubroutes apps i app within is may = both_fine _ _ (sym (each_left NamedRoutes apps i app within is) ∙ may)
may_left ExpandedRoutes apps i app within is may = both_fine _ _ (sym (each_left NamedRoutes apps i app within is) ∙ may)

one_fine : (server : Server) (servers : List Server) → HaveNoCycle (server ∷ servers) → HaveNoCycle (server ∷ []) × HaveNoCycle servers
one_fine server servers may =
    let both = both_fine (checked NamedRoutes server) (each_checked NamedRoutes servers) may in
    (ap (λ (r : Result (Unit {0}) LoadFault). r ▷ λ _. Ok tt) both.0, both.1)

pub may_next : (what : Check) (servers : List Server) (i : ℕ) (server : Server) → i < length servers → server ≡ get_or servers i server → MayCheck what (drop i servers)
    → MayCheckBoth what (server ∷ []) (drop (i + 1) servers)
may_next NamedRoutes servers i server within is may = (tt, tt)
may_next ErrorSubroutes servers i server within is may = one_fine server (drop (i + 1) servers) (sym (ap (each_checked NamedRoutes) (drop-element servers i server within is)) ∙ may)
may_next ExpandedRoutes servers i server within is may = one_fine server (drop (i + 1) servers) (sym (ap (each_checked NamedRoutes) (drop-element servers i server within is)) ∙ may)

-- ---- what is known then

none_least : (server : Server) (f : ℕ → List ℕ) (found : Option ℕ) → cycle_fault server (option_map f found) ≡ Ok tt → found ≡ None
none_least server f None fine = refl
none_least server f (Some n) fine = cc

-- a server in which no cycle was found has none
pub one_has_none : (server : Server) → HaveNoCycle (server ∷ []) → HasNoCycle server.named
one_has_none server fine = none_least server _ (least_in_cycle (leads_of server.named)) (both_fine (checked NamedRoutes server) (Ok tt) fine).0

-- the first of them, and the others
pub first_has_none : (left others : List Server) (server : Server) → left ≡ server ∷ others → HaveNoCycle left → HasNoCycle server.named
first_has_none left others server is fine = one_has_none server (one_fine server others (sym (ap (each_checked NamedRoutes) is) ∙ fine)).0

pub others_have_none : (left others : List Server) (server : Server) → left ≡ server ∷ others → HaveNoCycle left → HaveNoCycle others
others_have_none left others server is fine = (one_fine server others (sym (ap (each_checked NamedRoutes) is) ∙ fine)).1

-- the same of apps
apps_fine : (left others : List App) (app : App) → left ≡ app ∷ others → HaveNoCycle (flat_map app_servers left) → HaveNoCycle (app_servers app) × HaveNoCycle (flat_map app_servers others)
apps_fine left others app is fine =
    both_fine (each_checked NamedRoutes (app_servers app)) (each_checked NamedRoutes (flat_map app_servers others))
    (sym (ap (λ apps. each_checked NamedRoutes (flat_map app_servers apps)) is ∙ ap (each_checked NamedRoutes) (flat_map-cons app_servers app others)
    ∙ each_more NamedRoutes (app_servers app) (flat_map app_servers others)) ∙ fine)

pub first_app_has_none : (left others : List App) (app : App) → left ≡ app ∷ others → HaveNoCycle (flat_map app_servers left) → HaveNoCycle (app_servers app)
first_app_has_none left others app is fine = (apps_fine left others app is fine).0

pub other_apps_have_none : (left others : List App) (app : App) → left ≡ app ∷ others → HaveNoCycle (flat_map app_servers left) → HaveNoCycle (flat_map app_servers others)
other_apps_have_none left others app is fine = (apps_fine left others app is fine).1
