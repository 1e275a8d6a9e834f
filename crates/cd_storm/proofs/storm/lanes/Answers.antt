use Rattle.std.proofs.Common.{All, ap, ◌∙◌, subst, sym, List}
use Rattle.std.proofs.lemmas.List.Elements.{All-push}
use Rattle.cd_outside.specs.declared.memory_lane.MemoryLane.{MemoryLane}
use Rattle.cd_storm.specs.Scripts.{lane_script, IsFresh}
use Rattle.cd_storm.proofs.Adding.{lane_added}
use Rattle.cd_storm.proofs.storm.lanes.Goals as goal

pub loop-lane-preserved : goal.loop-lane-preserved
loop-lane-preserved c =
    let made = c.new-in-loop-lane.ensures in
    let added = c.in_ok-push.ensures.ok in
    let fresh : IsFresh c.new-in-loop-lane.result = record { idle = made.idle; faults = made.faults ∙ ap (λ f. record { failing = f; calls = 0; count = 0 }) c.new.ensures; past = made.past } in
    record {
      scripts = lane_added (lane_script c.args.number) c.loop-lane.lane _ _ _ c.loop-lane.invariant.scripts added (made.script ∙ c.in_ok-script.ensures.script);
      fresh = subst (λ (lanes : List MemoryLane). All IsFresh lanes) (sym added) (All-push IsFresh c.loop-lane.lanes c.new-in-loop-lane.result c.loop-lane.invariant.fresh fresh);
      last = c.in_ok-script.ensures.last;
    }
