use Rattle.std.proofs.Common.{◌≡◌, ◌+◌, List, [], ◌∷◌, ◌++◌, length, sym, ap, ◌∙◌, subst, All, false, is_some}
use Rattle.std.proofs.lemmas.List.{length-append}
use Rattle.std.proofs.lemmas.List.Elements.{All-push}
use Rattle.cd_run_cases.specs.declared.resting.RestingLane.{RestingLane}
use Rattle.cd_run_cases.proofs.laning.lanes_of.Goals as goal

pub loop-tree-preserved : goal.loop-tree-preserved
loop-tree-preserved c =
    let lane = c.in_ok-listed_lane.field-0 in
    let grown : c.push.new.self ≡ c.loop-tree.lanes ++ lane ∷ [] = c.in_ok-push.ensures.ok in
    let idle : is_some lane.lane.current ≡ false = c.in_ok-listed_lane.ensures in
    record {
      many = ap length grown ∙ (length-append c.loop-tree.lanes (lane ∷ []) ∙ ap (λ n. n + 1) c.loop-tree.invariant.many);
      idle = subst (λ (lanes : List RestingLane). All (λ (l : RestingLane). is_some l.lane.current ≡ false) lanes) (sym grown) (All-push (λ (l : RestingLane). is_some l.lane.current ≡ false) c.loop-tree.lanes lane c.loop-tree.invariant.idle idle);
    }
