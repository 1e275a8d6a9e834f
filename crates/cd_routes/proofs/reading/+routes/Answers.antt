use Rattle.std.proofs.Common.{rules, arith, ◌≡◌, ◌<◌, ap, sym, ◌∙◌, map, length, get_or}
use Rattle.cd_module.proofs.Inside.{members_depth, get_depth, element_depth, each_step}
use Rattle.cd_tree.specs.Tree.{depth, largest}
use Rattle.cd_routes.specs.Reading.{route, routes, subroute}
use Rattle.cd_routes.proofs.Routes.{routes_are}
use Rattle.cd_handlers.proofs.Readers.{step_failed}
use Rattle.cd_routes.proofs.reading.+routes.Goals as goal

pub read_routes-returns : goal.read_routes-returns
read_routes-returns t c = rw (routes_are c.args.known.now) c.read_route_list.ensures

pub read_route-returns-in_err-fields : goal.read_route-returns-in_err-fields
unfolding route
read_route-returns-in_err-fields t c = step_failed _ _ _ c.from_residual.ensures.1 (λ ne. rw (c.in_err-fields.ensures ne))

pub read_route-returns-in_err-group : goal.read_route-returns-in_err-group
unfolding route
read_route-returns-in_err-group t c = step_failed _ _ _ c.from_residual-in_err-group.ensures.1 (λ ne. rw (c.in_ok-fields.ensures, c.in_err-group.ensures ne))

pub read_route-returns-in_err-matching : goal.read_route-returns-in_err-matching
unfolding route
read_route-returns-in_err-matching t c = step_failed _ _ _ c.from_residual-in_err-matching.ensures.1 (λ ne. rw (c.in_ok-fields.ensures, c.in_ok-group.ensures, c.in_err-matching.ensures ne))

pub read_route-returns-in_err-handle : goal.read_route-returns-in_err-handle
unfolding route
read_route-returns-in_err-handle t c = step_failed _ _ _ c.from_residual-in_err-handle.ensures.1 (λ ne. rw (c.in_ok-fields.ensures, c.in_ok-group.ensures, c.in_ok-matching.ensures, c.in_err-handle.ensures ne))

pub read_route-returns-in_err-terminal : goal.read_route-returns-in_err-terminal
unfolding route
read_route-returns-in_err-terminal t c = step_failed _ _ _ c.from_residual-in_err-terminal.ensures.1 (λ ne. rw (c.in_ok-fields.ensures, c.in_ok-group.ensures, c.in_ok-matching.ensures, c.in_ok-handle.ensures, c.in_err-terminal.ensures ne))

pub read_route-returns : goal.read_route-returns
unfolding route
read_route-returns t c = rw (c.in_ok-fields.ensures, c.in_ok-group.ensures, c.in_ok-matching.ensures, c.in_ok-handle.ensures, c.in_ok-terminal.ensures) (search rules)

pub read_subroute-returns-in_err-fields : goal.read_subroute-returns-in_err-fields
unfolding subroute
read_subroute-returns-in_err-fields t c = step_failed _ _ _ c.from_residual.ensures.1 (λ ne. rw (c.in_err-fields.ensures ne))

pub read_subroute-returns-in_err-routes : goal.read_subroute-returns-in_err-routes
unfolding subroute
read_subroute-returns-in_err-routes t c = step_failed _ _ _ c.from_residual-in_err-routes.ensures.1 (λ ne. rw (c.in_ok-fields.ensures, c.in_err-routes.ensures ne))

pub read_subroute-returns-in_err-errors : goal.read_subroute-returns-in_err-errors
unfolding subroute
read_subroute-returns-in_err-errors t c = step_failed _ _ _ c.from_residual-in_err-errors.ensures.1 (λ ne. rw (c.in_ok-fields.ensures, c.in_ok-routes.ensures, c.in_err-errors.ensures ne))

pub read_subroute-returns : goal.read_subroute-returns
unfolding subroute
read_subroute-returns t c = rw (c.in_ok-fields.ensures, c.in_ok-routes.ensures, c.in_ok-errors.ensures) (search rules)

pub read_each_route-read_route-requires : goal.read_each_route-read_route-requires
read_each_route-read_route-requires t c =
    (omega (arith, element_depth c.as_slice-item-items.result.now c.loop-place.place c.item-item.result c.loop-place-test.true c.item-item.is, ap (λ x. largest (map depth x)) c.as_slice-item-items.ensures), tt)

pub read_each_step-read_step-requires : goal.read_each_step-read_step-requires
read_each_step-read_step-requires t c =
    (omega (arith, element_depth c.as_slice-item-items.result.now c.loop-place.place c.item-item.result c.loop-place-test.true c.item-item.is, ap (λ x. largest (map depth x)) c.as_slice-item-items.ensures), tt)

pub read_steps_member-read_step_list-requires : goal.read_steps_member-read_step_list-requires
read_steps_member-read_step_list-requires t c = (omega (arith, get_depth c.args.name.now c.args.fields.now.members.now c.in-Some.tree.now (sym c.in-Some.ensures.exact)), tt)

pub read_routes_member-read_routes-requires : goal.read_routes_member-read_routes-requires
read_routes_member-read_routes-requires t c = (omega (arith, get_depth c.args.name.now c.args.fields.now.members.now c.in-Some.tree.now (sym c.in-Some.ensures.exact)), tt)

pub read_errors_member-read_errors-requires : goal.read_errors_member-read_errors-requires
read_errors_member-read_errors-requires t c = (omega (arith, get_depth c.args.name.now c.args.fields.now.members.now c.in-Some.tree.now (sym c.in-Some.ensures.exact)), tt)

pub read_route-read_steps_member-requires : goal.read_route-read_steps_member-requires
read_route-read_steps_member-requires t c = (omega (arith, members_depth _ c.args.tree.now c.args.at.now c.in_ok-fields.fields.members.now c.in_ok-fields.ensures), tt)

pub read_subroute-read_routes_member-requires : goal.read_subroute-read_routes_member-requires
read_subroute-read_routes_member-requires t c = (omega (arith, members_depth _ c.args.tree.now c.args.at.now c.in_ok-fields.fields.members.now c.in_ok-fields.ensures), tt)

pub read_subroute-read_errors_member-requires : goal.read_subroute-read_errors_member-requires
read_subroute-read_errors_member-requires t c = (omega (arith, members_depth _ c.args.tree.now c.args.at.now c.in_ok-fields.fields.members.now c.in_ok-fields.ensures), tt)

pub read_errors-read_routes_member-requires : goal.read_errors-read_routes_member-requires
read_errors-read_routes_member-requires t c = (omega (arith, members_depth _ c.args.tree.now c.args.at.now c.in_ok-fields.fields.members.now c.in_ok-fields.ensures), tt)

pub read_each_route-loop-place-preserved : goal.read_each_route-loop-place-preserved
read_each_route-loop-place-preserved t c =
    let e : c.as_slice-item-items.result.now ≡ c.args.items.now = c.as_slice-item-items.ensures in
    let within : c.loop-place.place < length c.args.items.now = omega (arith, ap length e, c.loop-place-test.true) in
    let is : c.item-item.result ≡ get_or c.args.items.now c.loop-place.place c.item-item.result = c.item-item.is ∙ ap (λ z. get_or z c.loop-place.place c.item-item.result) e in
    rw c.in_ok-push.ensures.ok
    (each_step (route c.args.known.now (routes c.args.known.now)) c.loop-place.place c.args.items.now c.args.at.now c.loop-place.found c.item-item.result c.in_ok-read_route.field-0 within is
    (ap (route c.args.known.now (routes c.args.known.now) c.item-item.result) (sym c.element-here.ensures) ∙ c.in_ok-read_route.ensures)
    ∙ c.loop-place.invariant)
