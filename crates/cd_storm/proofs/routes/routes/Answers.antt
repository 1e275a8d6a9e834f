use Rattle.std.proofs.Common.{[], ◌∷◌, ◌++◌, ◌+◌, ap, ap₂, sym, ◌∙◌, arith}
use Rattle.std.proofs.lemmas.List.FromFn.{map-range_with_len_more}
use Rattle.cd_storm.specs.Draws.{next}
use Rattle.cd_storm.specs.FirstTree.{opening_route, drawn_route, route_of}
use Rattle.cd_storm.proofs.Drawing.{drawn_first, drawn_next}
use Rattle.cd_storm.proofs.routes.routes.Goals as goal

pub loop-place-init : goal.loop-place-init
loop-place-init c = record {
  routes = c.in_ok-push.ensures.ok ∙ ap₂ (λ p q. p ++ q ∷ []) c.new-routes.ensures c.in_ok-opening_route.ensures;
  last = c.requires ∙ sym (drawn_first c.args.number);
}

pub loop-place-preserved : goal.loop-place-preserved
loop-place-preserved c =
    let number = c.args.number in
    let place = c.loop-place.place in
    let value = c.draw-value.ensures.value ∙ ap next c.loop-place.invariant.last ∙ sym (drawn_next number place (place + 1) (omega arith)) in
    record {
      routes = c.in_ok-push-2.ensures.ok
          ∙ ap₂ (λ p q. p ++ q ∷ []) c.loop-place.invariant.routes (c.in_ok-route.ensures ∙ ap (route_of place) value)
          ∙ ap (λ r. opening_route ∷ r) (sym (map-range_with_len_more (drawn_route number) 0 place place (omega arith)));
      last = c.draw-value.ensures.last ∙ value;
    }
