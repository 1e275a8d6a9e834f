use Rattle.std.proofs.Common.{◌≡◌, ◌+◌, ◌*◌, ◌∙◌, ap, sym, arith}
use Rattle.std.specs.List.{flat_map, range_with_len}
use Rattle.cd_storm.specs.declared.limits.TheConstants.{STEPS}
use Rattle.cd_storm.specs.Draws.{next, route_count}
use Rattle.cd_storm.specs.Scripts.{lane_script, lane_step}
use Rattle.cd_storm.proofs.Drawing.{drawn_next}
use Rattle.cd_storm.proofs.Adding.{step_drawn, step_added}
use Rattle.cd_storm.proofs.requests.lane_script.Goals as goal

pub loop-step-preserved : goal.loop-step-preserved
loop-step-preserved c =
    let number = c.args.number in
    let lane = c.args.lane in
    let step = c.loop-step.step in
    let last = c.loop-step.invariant.last in
    record {
      calls = step_added number lane step _ _ _ _ c.route_count-routes.ensures (step_drawn number lane step _ _ last c.draw-value.ensures.value) c.loop-step.invariant.calls c.in_ok-add_step.ensures;
      last = c.draw-value.ensures.last ∙ c.draw-value.ensures.value ∙ ap next last
          ∙ sym (drawn_next number (route_count number + STEPS * lane + step) (route_count number + STEPS * lane + (step + 1)) (omega arith));
    }

pub returns-clause-script : goal.returns-clause-script
unfolding lane_script
returns-clause-script c =
    let all : c.loop-step.step ≡ STEPS = omega arith in
    c.loop-step.invariant.calls ∙ ap (λ n. flat_map (lane_step c.args.number c.args.lane) (range_with_len 0 n)) all
