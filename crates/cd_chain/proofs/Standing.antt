-- What is laid out stands for the named routes and for the routes of a server, and a chain that stands for a server answers alike.
use Rattle.std.proofs.Common.{◌≡◌, ℕ, ◌≤◌, length, List, Option, Some, None, sym, ap, subst, ◌∙◌, refl}
use Rattle.cd_fill.specs.declared.scene.Scene.{Scene}
use Rattle.cd_routes.specs.declared.named.NamedRoute.{NamedRoute}
use Rattle.cd_routes.specs.declared.outcome.Outcome.{Outcome}
use Rattle.cd_routes.specs.declared.outcome.Outcome.TheVariants.{Answered, Failed}
use Rattle.cd_routes.specs.declared.route.Route.{Route}
use Rattle.cd_routes.specs.declared.server.Server.{Server}
use Rattle.cd_routes.specs.Invoking.{route_names}
use Rattle.cd_routes.specs.Named.{named_routes}
use Rattle.cd_routes.specs.Running.{Rest, Middleware, Named, nothing_left, run_routes, with_error}
use Rattle.cd_routes.specs.Serving.{settled, error_answer, restored, answer_with, answer_from}
use Rattle.cd_chain.specs.declared.chain.Chain.{Chain}
use Rattle.cd_chain.specs.declared.place.Place.{Place}
use Rattle.cd_chain.specs.Growing.{Grows}
use Rattle.cd_chain.specs.Places.{ended, place_does, at}
use Rattle.cd_chain.specs.Chains.{from_place, chain_settled, chain_answer, ErrorsStand, Stands, IsMadeOf}
use Rattle.cd_chain.specs.Laying.{entered, entered_by, named_at}
use Rattle.cd_chain.proofs.Laid.{laid_end}

same_named : (f g : Named) → ((n : List ℕ) → f n ≡ g n) → f ≡ g
same_named f g same = λ i n. same n i

-- all that is entered does what the named routes do
pub all_named : (named : List NamedRoute) (places : List Place) (entries : List ℕ) (names : List (List ℕ)) → names ≡ route_names named → ((n : ℕ) → entered places entries n ≡ named_at named n) → entered_by places entries names ≡ named_routes named
unfolding named_routes
all_named named places entries names is stand = ap (entered_by places entries) is ∙ same_named (entered_by places entries (route_names named)) (named_routes named) (λ name. stand _)

pub routes_stand : (e : Named) (named : List NamedRoute) (old mid new : List Place) (begin : ℕ) (routes : List Route) → e ≡ named_routes named → ((back : Rest) → at mid begin back ≡ run_routes e routes (at old 0 back)) →
    begin ≤ length mid → Grows mid new → from_place new begin ≡ run_routes (named_routes named) routes nothing_left
routes_stand e named old mid new begin routes stand laid within grows =
    ap (λ (f : Middleware). f nothing_left) (grows.kept begin within)
    ∙ laid nothing_left
    ∙ ap (λ (f : Middleware). run_routes e routes (f nothing_left)) (laid_end place_does ended old)
    ∙ ap (λ (f : Named). run_routes f routes nothing_left) stand

pub errors_laid : (e : Named) (old new : List Place) (n : ℕ) (errors : Option (List Route)) (given : List Route) → errors ≡ Some given → ((back : Rest) → at new n back ≡ run_routes e given (at old 0 back)) → ErrorsStand new (Some n) e errors
errors_laid e old new n errors given some laid = (given, some, laid nothing_left ∙ ap (λ (f : Middleware). run_routes e given (f nothing_left)) (laid_end place_does ended old))

pub errors_named : (places : List Place) (n : Option ℕ) (e f : Named) (errors : Option (List Route)) → e ≡ f → ErrorsStand places n e errors → ErrorsStand places n f errors
errors_named places n e f errors same stands = subst (λ g. ErrorsStand places n g errors) same stands

pub chain_stands : (chain : Chain) (laid : List Place) (routes : List Route) (errors : Option (List Route)) (named : List NamedRoute) → chain.places ≡ laid →
    from_place laid chain.routes ≡ run_routes (named_routes named) routes nothing_left → ErrorsStand laid chain.errors (named_routes named) errors → Stands chain routes errors named
chain_stands chain laid routes errors named is first second = record {
  main = ap (λ ps. from_place ps chain.routes) is ∙ first;
  errors = subst (λ ps. ErrorsStand ps chain.errors (named_routes named) errors) (sym is) second;
}

-- ---- answers

settled_alike : (places : List Place) (n : Option ℕ) (named : Named) (errors : Option (List Route)) (outcome : Outcome) → ErrorsStand places n named errors → chain_settled places n outcome ≡ settled named errors outcome
settled_alike places None named errors (Answered a) stands = refl
settled_alike places (Some n) named errors (Answered a) stands = refl
settled_alike places None named errors (Failed x status message) stands = sym (ap (λ e. settled named e (Failed x status message)) stands)
settled_alike places (Some n) named errors (Failed x status message) stands =
    ap (λ (f : Rest). error_answer x status (f (with_error status message (restored x)))) stands.2
    ∙ sym (ap (λ e. settled named e (Failed x status message)) stands.1)

pub answers_alike : (chain : Chain) (server : Server) (x : Scene) → IsMadeOf chain server → chain_answer chain x ≡ answer_from server x
unfolding chain_answer answer_with
answers_alike chain server x stands =
    ap (λ (f : Rest). chain_settled chain.places chain.errors (f x)) stands.main
    ∙ settled_alike chain.places chain.errors (named_routes server.named) server.errors (run_routes (named_routes server.named) server.routes nothing_left x) stands.errors
