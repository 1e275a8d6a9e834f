use Rattle.std.proofs.Common.{◌≡◌, ◌+◌, ◌*◌, ◌≤◌, suc, map}
use Rattle.cd_routes.specs.declared.route.Subroute.{out-Subroute}
use Rattle.cd_routes.specs.Named.{named_routes}
use Rattle.cd_routes.specs.Work.{named_weights, done, all_changes, weight, told, weight_left, total, step_weight, subroute_weight}
use Rattle.cd_routes.proofs.running.+run.Given as goal

abbrev pub decreases-run : goal.decreases-run
decreases-run l = 8 * weight (named_weights l.named.now) l.work.items + 7

abbrev pub decreases-advance : goal.decreases-advance
decreases-advance l = 8 * weight (named_weights l.named.now) l.work.items + 6

abbrev pub decreases-on_steps : goal.decreases-on_steps
decreases-on_steps l = 8 * (weight (named_weights l.named.now) l.rest.items + total (map (step_weight (named_weights l.named.now)) l.steps.now)) + 5

abbrev pub decreases-begin : goal.decreases-begin
decreases-begin l = 8 * (weight (named_weights l.named.now) l.rest.items + step_weight (named_weights l.named.now) l.step.now) + 4

abbrev pub decreases-nest : goal.decreases-nest
decreases-nest l = 8 * (weight (named_weights l.named.now) l.rest.items + subroute_weight (named_weights l.named.now) (out-Subroute l.subroute.now)) + 3

abbrev pub invariant-run-loop-progress : goal.invariant-run-loop-progress
invariant-run-loop-progress l = (all_changes l.left (told (named_routes l.named) l.progress) ≡ done (named_routes l.named) l.fn.work.items l.fn.scene) × (weight_left (named_weights l.named) l.progress ≤ suc (weight (named_weights l.named) l.fn.work.items))

abbrev pub decreases-run-loop-progress : goal.decreases-run-loop-progress
decreases-run-loop-progress l = weight_left (named_weights l.named) l.progress
