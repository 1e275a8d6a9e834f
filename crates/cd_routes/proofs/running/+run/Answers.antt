use Rattle.std.proofs.Common.{◌≡◌, ◌≤◌, ◌+◌, ◌∙◌, ◌++◌, ◌∷◌, [], map, ap, arith, refl, sym, option_map}
use Rattle.cd_routes.specs.declared.work.Work.TheVariants.{Routes, Steps}
use Rattle.cd_routes.specs.declared.work.Progress.TheVariants.{Leaves}
use Rattle.cd_routes.specs.declared.route.Subroute.{out-Subroute}
use Rattle.cd_handlers.specs.Invoke.{invoked}
use Rattle.cd_routes.specs.Named.{named_routes}
use Rattle.cd_routes.specs.Running.{run_route, run_routes, run_steps, run_step, in_place}
use Rattle.cd_routes.specs.Work.{named_weights, handler_weight, done, all_changes, told, weight_left, weight, total, route_weight, step_weight, subroute_weight, errors_weight}
use Rattle.cd_routes.proofs.Equations.{run_handler_is, run_subroute_is, handler_weight_is, subroute_weight_is}
use Rattle.cd_routes.proofs.Pushes.{changes_none, changes_left, done_none, done_more, weight_more, steps_begun, steps_weigh, nest_plain, nest_answered, nest_failed, errors_some, total_some, told_at, left_at}
use Rattle.cd_routes.proofs.running.+run.Goals as goal

pub advance-returns-in-None-clause-meaning : goal.advance-returns-in-None-clause-meaning
advance-returns-in-None-clause-meaning t c = c.nothing_left.ensures ∙ done_none (named_routes c.args.named.now) c.args.work.items c.args.scene c.in-None.ensures

pub advance-returns-in-Some-Routes-clause-meaning : goal.advance-returns-in-Some-Routes-clause-meaning
advance-returns-in-Some-Routes-clause-meaning t c =
    told_at c.on_routes.result (named_routes c.args.named.now) _ _
    (done_more (named_routes c.args.named.now) c.args.work.items c.take_next.new.work.items c.in-Some-Routes.field-0 (Routes c.in-Some-Routes.routes) c.args.scene c.in-Some-Routes.ensures c.in-Some-Routes.field-0-is)
    c.on_routes.ensures.meaning

pub advance-returns-in-Some-Routes-clause-less : goal.advance-returns-in-Some-Routes-clause-less
advance-returns-in-Some-Routes-clause-less t c =
    let e : weight (named_weights c.args.named.now) c.args.work.items ≡ weight (named_weights c.args.named.now) c.take_next.new.work.items + total (map (route_weight (named_weights c.args.named.now)) c.in-Some-Routes.routes.now) =
    weight_more (named_weights c.args.named.now) c.args.work.items c.take_next.new.work.items c.in-Some-Routes.field-0 (Routes c.in-Some-Routes.routes) c.in-Some-Routes.ensures c.in-Some-Routes.field-0-is in
    left_at c.on_routes.result (named_weights c.args.named.now) (λ w. weight w c.take_next.new.work.items + total (map (route_weight w) c.in-Some-Routes.routes.now)) _ (omega (arith, e)) c.on_routes.ensures.less

pub advance-on_steps-requires : goal.advance-on_steps-requires
advance-on_steps-requires t c =
    let e : weight (named_weights c.args.named.now) c.args.work.items ≡ weight (named_weights c.args.named.now) c.take_next.new.work.items + total (map (step_weight (named_weights c.args.named.now)) c.in-Some-Steps.steps.now) =
    weight_more (named_weights c.args.named.now) c.args.work.items c.take_next.new.work.items c.in-Some-Steps.field-0 (Steps c.in-Some-Steps.steps) c.in-Some-Steps.ensures c.in-Some-Steps.field-0-is in
    (omega arith, c.requires)

pub advance-returns-clause-meaning : goal.advance-returns-clause-meaning
advance-returns-clause-meaning t c =
    let e : done (named_routes c.args.named.now) c.args.work.items c.args.scene ≡ run_steps (named_routes c.args.named.now) c.in-Some-Steps.steps.now (done (named_routes c.args.named.now) c.take_next.new.work.items) c.args.scene =
    done_more (named_routes c.args.named.now) c.args.work.items c.take_next.new.work.items c.in-Some-Steps.field-0 (Steps c.in-Some-Steps.steps) c.args.scene c.in-Some-Steps.ensures c.in-Some-Steps.field-0-is in
    rw e c.on_steps.ensures.meaning

pub advance-returns-clause-less : goal.advance-returns-clause-less
advance-returns-clause-less t c =
    let e : weight (named_weights c.args.named.now) c.args.work.items ≡ weight (named_weights c.args.named.now) c.take_next.new.work.items + total (map (step_weight (named_weights c.args.named.now)) c.in-Some-Steps.steps.now) =
    weight_more (named_weights c.args.named.now) c.args.work.items c.take_next.new.work.items c.in-Some-Steps.field-0 (Steps c.in-Some-Steps.steps) c.in-Some-Steps.ensures c.in-Some-Steps.field-0-is in
    rw e c.on_steps.ensures.less

pub begin-nest-requires : goal.begin-nest-requires
begin-nest-requires t c =
    let e : step_weight (named_weights c.args.named.now) c.args.step.now ≡ subroute_weight (named_weights c.args.named.now) (out-Subroute c.in-Subroute.subroute) = ap (step_weight (named_weights c.args.named.now)) c.in-Subroute.is ∙ subroute_weight_is (named_weights c.args.named.now) c.in-Subroute.subroute in
    (omega arith, c.requires)

pub begin-returns-in-Handler-clause-meaning : goal.begin-returns-in-Handler-clause-meaning
begin-returns-in-Handler-clause-meaning t c =
    let e : run_step (named_routes c.args.named.now) c.args.step.now (done (named_routes c.args.named.now) c.args.rest.items) c.args.scene
    ≡ in_place (named_routes c.args.named.now) (invoked c.in-Handler.handler) c.in-Handler.handler (done (named_routes c.args.named.now) c.args.rest.items) c.args.scene =
    ap (λ s. run_step (named_routes c.args.named.now) s (done (named_routes c.args.named.now) c.args.rest.items) c.args.scene) c.in-Handler.is
    ∙ run_handler_is (named_routes c.args.named.now) c.in-Handler.handler (done (named_routes c.args.named.now) c.args.rest.items) c.args.scene in
    rw e c.handle.ensures.meaning

pub begin-returns-in-Handler-clause-less : goal.begin-returns-in-Handler-clause-less
begin-returns-in-Handler-clause-less t c =
    let e : step_weight (named_weights c.args.named.now) c.args.step.now ≡ handler_weight (named_weights c.args.named.now) (invoked c.in-Handler.handler) =
    ap (step_weight (named_weights c.args.named.now)) c.in-Handler.is ∙ handler_weight_is (named_weights c.args.named.now) c.in-Handler.handler in
    rw e c.handle.ensures.less

pub begin-returns-in-Subroute-clause-meaning : goal.begin-returns-in-Subroute-clause-meaning
begin-returns-in-Subroute-clause-meaning t c =
    let e = ap (λ s. run_step (named_routes c.args.named.now) s (done (named_routes c.args.named.now) c.args.rest.items) c.args.scene) c.in-Subroute.is ∙ run_subroute_is (named_routes c.args.named.now) c.in-Subroute.subroute (done (named_routes c.args.named.now) c.args.rest.items) c.args.scene in
    rw e c.nest.ensures.meaning

pub begin-returns-in-Subroute-clause-less : goal.begin-returns-in-Subroute-clause-less
begin-returns-in-Subroute-clause-less t c =
    let e : step_weight (named_weights c.args.named.now) c.args.step.now ≡ subroute_weight (named_weights c.args.named.now) (out-Subroute c.in-Subroute.subroute) = ap (step_weight (named_weights c.args.named.now)) c.in-Subroute.is ∙ subroute_weight_is (named_weights c.args.named.now) c.in-Subroute.subroute in
    rw e c.nest.ensures.less

pub nest-returns-in-None-clause-meaning : goal.nest-returns-in-None-clause-meaning
nest-returns-in-None-clause-meaning t c =
    nest_plain (named_routes c.args.named.now) (out-Subroute c.args.subroute.now).errors (out-Subroute c.args.subroute.now).routes c.as_slice.result c.args.rest.items c.push.new.self.items c.args.scene c.in-None.is c.in-Ok.ensures.items c.as_slice.ensures

pub nest-returns-in-None-clause-less : goal.nest-returns-in-None-clause-less
nest-returns-in-None-clause-less t c =
    let e : weight (named_weights c.args.named.now) c.push.new.self.items ≡ weight (named_weights c.args.named.now) c.args.rest.items + total (map (route_weight (named_weights c.args.named.now)) c.as_slice.result.now) =
    weight_more (named_weights c.args.named.now) c.push.new.self.items c.args.rest.items (Routes c.as_slice.result) (Routes c.as_slice.result) c.in-Ok.ensures.items refl in
    let f : total (map (route_weight (named_weights c.args.named.now)) c.as_slice.result.now) ≡ total (map (route_weight (named_weights c.args.named.now)) (out-Subroute c.args.subroute.now).routes) = ap (λ rs. total (map (route_weight (named_weights c.args.named.now)) rs)) c.as_slice.ensures in
    omega arith

pub nest-run-requires : goal.nest-run-requires
nest-run-requires t c =
    let n : c.in-Ok-in_front.tried.items ≡ c.args.rest.items ++ Routes c.as_slice-in-Some.result ∷ [] = c.in-Ok-in_front.ensures in
    let e : weight (named_weights c.args.named.now) c.in-Ok-in_front.tried.items ≡ weight (named_weights c.args.named.now) c.args.rest.items + total (map (route_weight (named_weights c.args.named.now)) c.as_slice-in-Some.result.now) =
    weight_more (named_weights c.args.named.now) c.in-Ok-in_front.tried.items c.args.rest.items (Routes c.as_slice-in-Some.result) (Routes c.as_slice-in-Some.result) n refl in
    let f : total (map (route_weight (named_weights c.args.named.now)) c.as_slice-in-Some.result.now) ≡ total (map (route_weight (named_weights c.args.named.now)) (out-Subroute c.args.subroute.now).routes) = ap (λ rs. total (map (route_weight (named_weights c.args.named.now)) rs)) c.as_slice-in-Some.ensures in
    let k : 1 ≤ errors_weight (option_map (map (route_weight (named_weights c.args.named.now))) (out-Subroute c.args.subroute.now).errors) = errors_some (named_weights c.args.named.now) _ c.in-Some.errors c.in-Some.is in
    (omega arith, c.requires)

pub nest-returns-in-Answered-clause-meaning : goal.nest-returns-in-Answered-clause-meaning
nest-returns-in-Answered-clause-meaning t c =
    let n : c.in-Ok-in_front.tried.items ≡ c.args.rest.items ++ Routes c.as_slice-in-Some.result ∷ [] = c.in-Ok-in_front.ensures in
    nest_answered (named_routes c.args.named.now) (out-Subroute c.args.subroute.now).errors c.in-Some.errors (out-Subroute c.args.subroute.now).routes c.as_slice-in-Some.result c.args.rest.items c.in-Ok-in_front.tried.items c.args.scene
    c.in_ok-answer-in-Some.field-0 c.in-Answered.answer c.in-Some.is n c.as_slice-in-Some.ensures c.in_ok-answer-in-Some.ensures c.in-Answered.is

pub nest-returns-clause-meaning : goal.nest-returns-clause-meaning
nest-returns-clause-meaning t c =
    let n : c.in-Ok-in_front.tried.items ≡ c.args.rest.items ++ Routes c.as_slice-in-Some.result ∷ [] = c.in-Ok-in_front.ensures in
    nest_failed (named_routes c.args.named.now) (out-Subroute c.args.subroute.now).errors c.in-Some.errors (out-Subroute c.args.subroute.now).routes c.as_slice-in-Some.result c.as_slice-in-Failed.result c.args.rest.items c.in-Ok-in_front.tried.items c.push-in-Failed.new.self.items
    c.args.scene c.in-Failed.scene c.with_error.result c.in-Failed.status c.in-Failed.message c.in_ok-answer-in-Some.field-0
    c.in-Some.is n c.as_slice-in-Some.ensures c.in_ok-answer-in-Some.ensures c.in-Failed.is c.in-Ok-push.ensures.items c.as_slice-in-Failed.ensures c.with_error.ensures

pub nest-returns-clause-less : goal.nest-returns-clause-less
nest-returns-clause-less t c =
    let e : weight (named_weights c.args.named.now) c.push-in-Failed.new.self.items ≡ weight (named_weights c.args.named.now) c.args.rest.items + total (map (route_weight (named_weights c.args.named.now)) c.as_slice-in-Failed.result.now) =
    weight_more (named_weights c.args.named.now) c.push-in-Failed.new.self.items c.args.rest.items (Routes c.as_slice-in-Failed.result) (Routes c.as_slice-in-Failed.result) c.in-Ok-push.ensures.items refl in
    let k : total (map (route_weight (named_weights c.args.named.now)) c.as_slice-in-Failed.result.now) ≡ errors_weight (option_map (map (route_weight (named_weights c.args.named.now))) (out-Subroute c.args.subroute.now).errors) =
    ap (λ rs. total (map (route_weight (named_weights c.args.named.now)) rs)) c.as_slice-in-Failed.ensures ∙ sym (ap (λ e. errors_weight (option_map (map (route_weight (named_weights c.args.named.now))) e)) c.in-Some.is) in
    let l : 1 ≤ total (map (route_weight (named_weights c.args.named.now)) (out-Subroute c.args.subroute.now).routes) = total_some _ in
    omega arith

pub on_steps-begin-requires : goal.on_steps-begin-requires
on_steps-begin-requires t c =
    let e : weight (named_weights c.args.named.now) c.args.rest.items + total (map (step_weight (named_weights c.args.named.now)) c.args.steps.now) ≡ weight (named_weights c.args.named.now) c.push.new.self.items + step_weight (named_weights c.args.named.now) c.in-Some.step.now =
    steps_weigh (named_weights c.args.named.now) c.args.steps.now c.in-Some.step.now c.in-Some.others c.args.rest.items c.push.new.self.items c.in-Some.ensures c.in-Ok.ensures.items in
    (omega arith, c.requires)

pub on_steps-returns-in-Ok-clause-meaning : goal.on_steps-returns-in-Ok-clause-meaning
on_steps-returns-in-Ok-clause-meaning t c =
    let e : run_steps (named_routes c.args.named.now) c.args.steps.now (done (named_routes c.args.named.now) c.args.rest.items) c.args.scene ≡ run_step (named_routes c.args.named.now) c.in-Some.step.now (done (named_routes c.args.named.now) c.push.new.self.items) c.args.scene =
    steps_begun (named_routes c.args.named.now) c.args.steps.now c.in-Some.step.now c.in-Some.others c.args.rest.items c.push.new.self.items c.args.scene c.in-Some.ensures c.in-Ok.ensures.items in
    rw e c.begin.ensures.meaning

pub on_steps-returns-in-Ok-clause-less : goal.on_steps-returns-in-Ok-clause-less
on_steps-returns-in-Ok-clause-less t c =
    let e : weight (named_weights c.args.named.now) c.args.rest.items + total (map (step_weight (named_weights c.args.named.now)) c.args.steps.now) ≡ weight (named_weights c.args.named.now) c.push.new.self.items + step_weight (named_weights c.args.named.now) c.in-Some.step.now =
    steps_weigh (named_weights c.args.named.now) c.args.steps.now c.in-Some.step.now c.in-Some.others c.args.rest.items c.push.new.self.items c.in-Some.ensures c.in-Ok.ensures.items in
    rw e c.begin.ensures.less

pub run-loop-progress-init : goal.run-loop-progress-init
run-loop-progress-init t c = (changes_none c.new-left.result (done (named_routes c.args.named.now) c.args.work.items c.args.scene) c.new-left.ensures, omega arith)

pub run-loop-progress-preserved-in-Leaves : goal.run-loop-progress-preserved-in-Leaves
run-loop-progress-preserved-in-Leaves t c =
    let e : all_changes c.loop-progress.left (told (named_routes c.args.named.now) (Leaves c.in-Leaves.changes c.in-Leaves.work c.in-Leaves.scene)) ≡ done (named_routes c.args.named.now) c.args.work.items c.args.scene =
    sym (ap (λ p. all_changes c.loop-progress.left (told (named_routes c.args.named.now) p)) c.in-Leaves.is) ∙ c.loop-progress.invariant.0 in (
      changes_left c.push.new.self c.loop-progress.left c.in-Leaves.changes (done (named_routes c.args.named.now) c.in-Leaves.work.items c.in-Leaves.scene) (done (named_routes c.args.named.now) c.args.work.items c.args.scene) c.in-Ok.ensures.ok e,
      omega (arith, ap (weight_left (named_weights c.args.named.now)) c.in-Leaves.is, c.loop-progress.invariant.1),
    )
