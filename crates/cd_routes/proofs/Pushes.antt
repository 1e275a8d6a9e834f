-- What a push or a pop of work means, and how much work it leaves.
use Rattle.std.proofs.Common.{◌≡◌, true, ℕ, ◌+◌, ◌≤◌, ◌++◌, List, [], ◌∷◌, map, sym, ap, ◌∙◌, refl, arith, Option, Some, None, option_map}
use Rattle.std.specs.Prelude.{IfOk, Result, Ok, Err}
use Rattle.std.specs.Borrow.{Bor}
use Rattle.cd_text.specs.declared.memory.NoMemory.{NoMemory}
use Rattle.cd_routes.specs.declared.work.Progress.{Progress}
use Rattle.cd_fill.specs.declared.scene.Scene.{Scene}
use Rattle.cd_wire.specs.declared.answer.Answer.{Answer}
use Rattle.cd_routes.specs.declared.outcome.Outcome.{Outcome}
use Rattle.cd_routes.specs.declared.outcome.Outcome.TheVariants.{Answered, Failed}
use Rattle.cd_routes.specs.declared.route.Route.{Route}
use Rattle.cd_routes.specs.declared.route.Step.{Step}
use Rattle.cd_routes.specs.declared.work.Work.{Work}
use Rattle.cd_routes.specs.declared.work.Work.TheVariants.{Routes, Steps}
use Rattle.cd_handlers.specs.declared.changes.FilledChanges.{FilledChanges}
use Rattle.cd_handlers.specs.declared.outcome.Effect.TheVariants as effect
use Rattle.cd_handlers.specs.Effect.{has_gone_on}
use Rattle.cd_handlers.specs.declared.outcome.Effect.{Effect}
use Rattle.cd_routes.specs.Running.{Rest, Named, in_order, after, with_changes, nothing_left, caught, with_error, run_route, run_routes, run_step, run_steps}
use Rattle.cd_routes.specs.Work.{Weights, told, all_changes, weight_left, total, errors_weight, route_weight, step_weight, done, weight, item_done, item_weight}
use Rattle.cd_routes.proofs.Equations.{all_changes_push, done_push, weight_push, routes_more, steps_more}

pub done_none : (named : Named) (work : List Work) (x : Scene) → work ≡ [] → nothing_left x ≡ done named work x
unfolding done
done_none named work x is = sym (ap (λ w. done named w x) is)

pub done_more : (named : Named) (new rest : List Work) (item same : Work) (x : Scene) → new ≡ rest ++ item ∷ [] → item ≡ same → done named new x ≡ item_done named same (done named rest) x
done_more named new rest item same x new-is is = ap (λ w. done named w x) new-is ∙ ap (λ f. f x) (done_push named rest item) ∙ ap (λ i. item_done named i (done named rest) x) is

pub weight_more : (w : Weights) (new rest : List Work) (item same : Work) → new ≡ rest ++ item ∷ [] → item ≡ same → weight w new ≡ weight w rest + item_weight w same
weight_more w new rest item same new-is is = ap (weight w) new-is ∙ weight_push w rest item ∙ ap (λ i. weight w rest + item_weight w i) is

pub routes_begun : (named : Named) (routes : List Route) (r : Route) (others : Bor (List Route)) (rest new : List Work) (x : Scene) →
    routes ≡ r ∷ others.now → new ≡ rest ++ Routes others ∷ [] → run_routes named routes (done named rest) x ≡ run_route named r (done named new) x
routes_begun named routes r others rest new x is new-is =
    ap (λ rs. run_routes named rs (done named rest) x) is ∙ routes_more named r others.now (done named rest) x
    ∙ sym (ap (λ k. run_route named r k x) (ap (done named) new-is ∙ done_push named rest (Routes others)))

pub routes_none : (named : Named) (routes : List Route) (rest : Rest) (x : Scene) → routes ≡ [] → rest x ≡ run_routes named routes rest x
unfolding in_order
routes_none named routes rest x none = sym (ap (λ rs. run_routes named rs rest x) none)

pub steps_begun : (named : Named) (steps : List Step) (s : Step) (others : Bor (List Step)) (rest new : List Work) (x : Scene) →
    steps ≡ s ∷ others.now → new ≡ rest ++ Steps others ∷ [] → run_steps named steps (done named rest) x ≡ run_step named s (done named new) x
steps_begun named steps s others rest new x is new-is =
    ap (λ ss. run_steps named ss (done named rest) x) is ∙ steps_more named s others.now (done named rest) x
    ∙ sym (ap (λ k. run_step named s k x) (ap (done named) new-is ∙ done_push named rest (Steps others)))

pub routes_weigh : (w : Weights) (routes : List Route) (r : Route) (others : Bor (List Route)) (rest new : List Work) →
    routes ≡ r ∷ others.now → new ≡ rest ++ Routes others ∷ [] → weight w rest + total (map (route_weight w) routes) ≡ weight w new + route_weight w r
routes_weigh w routes r others rest new is new-is =
    omega (arith, weight_more w new rest (Routes others) (Routes others) new-is refl, ap (λ rs. total (map (route_weight w) rs)) is)

pub steps_weigh : (w : Weights) (steps : List Step) (s : Step) (others : Bor (List Step)) (rest new : List Work) →
    steps ≡ s ∷ others.now → new ≡ rest ++ Steps others ∷ [] → weight w rest + total (map (step_weight w) steps) ≡ weight w new + step_weight w s
steps_weigh w steps s others rest new is new-is =
    omega (arith, weight_more w new rest (Steps others) (Steps others) new-is refl, ap (λ ss. total (map (step_weight w) ss)) is)

-- ---- subroutes

routes_pushed : (named : Named) (routes : List Route) (pushed : Bor (List Route)) (rest new : List Work) (x : Scene) →
    new ≡ rest ++ Routes pushed ∷ [] → pushed.now ≡ routes → done named new x ≡ run_routes named routes (done named rest) x
routes_pushed named routes pushed rest new x new-is is =
    done_more named new rest (Routes pushed) (Routes pushed) x new-is refl ∙ ap (λ rs. run_routes named rs (done named rest) x) is

pub nest_plain : (named : Named) (errors : Option (List Route)) (routes : List Route) (pushed : Bor (List Route)) (rest new : List Work) (x : Scene) →
    errors ≡ None → new ≡ rest ++ Routes pushed ∷ [] → pushed.now ≡ routes →
    done named new x ≡ caught (option_map (map (run_route named)) errors) (done named rest) (run_routes named routes (done named rest) x)
unfolding caught
nest_plain named errors routes pushed rest new x none new-is is =
    routes_pushed named routes pushed rest new x new-is is
    ∙ sym (ap (λ e. caught (option_map (map (run_route named)) e) (done named rest) (run_routes named routes (done named rest) x)) none)

pub nest_answered : (named : Named) (errors : Option (List Route)) (given routes : List Route) (pushed : Bor (List Route)) (rest new : List Work) (x : Scene) (outcome : Outcome) (a : Answer) →
    errors ≡ Some given → new ≡ rest ++ Routes pushed ∷ [] → pushed.now ≡ routes → outcome ≡ done named new x → outcome ≡ Answered a →
    Answered a ≡ caught (option_map (map (run_route named)) errors) (done named rest) (run_routes named routes (done named rest) x)
unfolding caught
nest_answered named errors given routes pushed rest new x outcome a some new-is is outcome-is answered =
    sym (ap (λ e. caught (option_map (map (run_route named)) e) (done named rest) (run_routes named routes (done named rest) x)) some
    ∙ ap (λ o. caught (option_map (map (run_route named)) (Some given)) (done named rest) o) (sym (routes_pushed named routes pushed rest new x new-is is) ∙ sym outcome-is ∙ answered))

pub nest_failed : (named : Named) (errors : Option (List Route)) (given routes : List Route) (pushed caught_by : Bor (List Route)) (rest new later : List Work) (x y next : Scene) (status : ℕ) (message : List ℕ) (outcome : Outcome) →
    errors ≡ Some given → new ≡ rest ++ Routes pushed ∷ [] → pushed.now ≡ routes → outcome ≡ done named new x → outcome ≡ Failed y status message →
    later ≡ rest ++ Routes caught_by ∷ [] → caught_by.now ≡ given → next ≡ with_error status message y →
    done named later next ≡ caught (option_map (map (run_route named)) errors) (done named rest) (run_routes named routes (done named rest) x)
unfolding caught
nest_failed named errors given routes pushed caught_by rest new later x y next status message outcome some new-is is outcome-is failed later-is given-is next-is =
    routes_pushed named given caught_by rest later next later-is given-is
    ∙ ap (λ z. run_routes named given (done named rest) z) next-is
    ∙ sym (ap (λ e. caught (option_map (map (run_route named)) e) (done named rest) (run_routes named routes (done named rest) x)) some
    ∙ ap (λ o. caught (option_map (map (run_route named)) (Some given)) (done named rest) o) (sym (routes_pushed named routes pushed rest new x new-is is) ∙ sym outcome-is ∙ failed))

-- ---- handlers

-- what a handler leaves matters where the request goes on alone
pub after_same : (changes left : Option FilledChanges) (rest : Rest) (does : Effect) → (has_gone_on does ≡ true → changes ≡ left) →
    after changes rest does ≡ after left rest does
after_same changes left rest (effect.Next x) same = ap (λ d. with_changes d (rest x)) (same refl)
after_same changes left rest (effect.Answered a) same = refl
after_same changes left rest (effect.Failed x status message) same = refl

-- ---- pushing on a copy

pub total_some : (ns : List ℕ) → 1 ≤ total ns
total_some [] = omega arith
total_some (n ∷ ns) = omega (arith, total_some ns)

pub errors_some : (w : Weights) (errors : Option (List Route)) (given : List Route) → errors ≡ Some given → 1 ≤ errors_weight (option_map (map (route_weight w)) errors)
errors_some w errors given is =
    let some : 1 ≤ total (map (route_weight w) given) = total_some (map (route_weight w) given) in
    rw is some

pub done_one : (named : Named) (work : List Work) (routes : Bor (List Route)) (x : Scene) → work ≡ Routes routes ∷ [] → done named work x ≡ run_routes named routes.now nothing_left x
unfolding done
done_one named work routes x is = ap (λ w. done named w x) is

-- ---- changes

pub changes_none : (changes : List FilledChanges) (outcome : Outcome) → changes ≡ [] → all_changes changes outcome ≡ outcome
unfolding all_changes
changes_none changes outcome is = ap (λ c. all_changes c outcome) is

pub changes_left : (new left : List FilledChanges) (last : FilledChanges) (outcome whole : Outcome) →
    new ≡ left ++ last ∷ [] → all_changes left (with_changes (Some last) outcome) ≡ whole → all_changes new outcome ≡ whole
changes_left new left last outcome whole is known = ap (λ c. all_changes c outcome) is ∙ all_changes_push left last outcome ∙ known

-- ---- what is said for all named routes

pub told_same : (r : Result Progress NoMemory) (A B : Named → Outcome) → ((named : Named) → B named ≡ A named) →
    IfOk r (λ progress. (named : Named) → told named progress ≡ A named) → IfOk r (λ progress. (named : Named) → told named progress ≡ B named)
told_same (Ok progress) A B same is = λ named. is named ∙ sym (same named)
told_same (Err fault) A B same is = is

pub left_same : (r : Result Progress NoMemory) (A B : Weights → ℕ) → ((w : Weights) → A w ≤ B w) →
    IfOk r (λ progress. (w : Weights) → weight_left w progress ≤ A w) → IfOk r (λ progress. (w : Weights) → weight_left w progress ≤ B w)
left_same (Ok progress) A B same is = λ w. omega (arith, is w, same w)
left_same (Err fault) A B same is = is

-- and of some

pub told_at : (r : Result Progress NoMemory) (named : Named) (A : Named → Outcome) (b : Outcome) → b ≡ A named → IfOk r (λ progress. (n : Named) → told n progress ≡ A n) → IfOk r (λ progress. told named progress ≡ b)
told_at (Ok progress) named A b same is = is named ∙ sym same
told_at (Err fault) named A b same is = is

pub left_at : (r : Result Progress NoMemory) (w : Weights) (A : Weights → ℕ) (b : ℕ) → A w ≤ b → IfOk r (λ progress. (v : Weights) → weight_left v progress ≤ A v) → IfOk r (λ progress. weight_left w progress ≤ b)
left_at (Ok progress) w A b same is = omega (arith, is w, same)
left_at (Err fault) w A b same is = is

-- ---- how much is left

-- what is left is no more than more than that
pub more_left : (w : Weights) (result : Result Progress NoMemory) (n m : ℕ) → IfOk result (λ progress. weight_left w progress ≤ n) → n ≤ m → IfOk result (λ progress. weight_left w progress ≤ m)
more_left w (Ok progress) n m less more = omega (arith, less, more)
more_left w (Err fault) n m less more = less
