use Rattle.std.proofs.Common.{◌≡◌, ◌++◌, ◌∙◌, List, OnOk, ap, map, sym, subst}
use Rattle.cd_routes.specs.Invoking.{Names, joined, place_of, step_invokes}
use Rattle.cd_routes.proofs.Invokes.{route_invokes_is, handler_invokes_is, subroute_invokes_is}
use Rattle.cd_routes.proofs.leading.+leading.Goals as goal

pub add_route-returns : goal.add_route-returns
add_route-returns t c =
    subst (λ (ns : Names). OnOk c.add_steps.result (c.add_steps.new.out ≡ c.args.out.now ++ map (place_of c.args.names.now) ns))
    (ap (λ ss. joined (map step_invokes ss)) c.as_slice.ensures ∙ sym (route_invokes_is c.args.route.now)) c.add_steps.ensures

pub add_step-returns-in-Handler : goal.add_step-returns-in-Handler
add_step-returns-in-Handler t c =
    subst (λ (ns : Names). OnOk c.add_invoked.result (c.add_invoked.new.out ≡ c.args.out.now ++ map (place_of c.args.names.now) ns))
    (sym (ap step_invokes c.in-Handler.is ∙ handler_invokes_is c.in-Handler.handler)) c.add_invoked.ensures

pub add_step-returns-in-Subroute : goal.add_step-returns-in-Subroute
add_step-returns-in-Subroute t c =
    subst (λ (ns : Names). OnOk c.add_subroute.result (c.add_subroute.new.out ≡ c.args.out.now ++ map (place_of c.args.names.now) ns))
    (sym (ap step_invokes c.in-Subroute.is ∙ subroute_invokes_is c.in-Subroute.inside)) c.add_subroute.ensures
