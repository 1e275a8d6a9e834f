use Rattle.std.proofs.Common.{◌≡◌, ◌+◌, ◌*◌, map, drop}
use Rattle.cd_module.specs.Settings.{each, ahead}
use Rattle.cd_tree.specs.Tree.{depth, member_depth, largest}
use Rattle.cd_routes.specs.Reading.{routes, route, step}
use Rattle.cd_routes.proofs.reading.+routes.Given as goal

abbrev pub invariant-read_each_route-loop-place : goal.invariant-read_each_route-loop-place
invariant-read_each_route-loop-place l = ahead l.found (each (route l.known (routes l.known)) l.place (drop l.place l.fn.items) l.at) ≡ each (route l.known (routes l.known)) 0 l.fn.items l.at

abbrev pub invariant-read_each_step-loop-place : goal.invariant-read_each_step-loop-place
invariant-read_each_step-loop-place l = ahead l.found (each (step l.known (routes l.known)) l.place (drop l.place l.fn.items) l.at) ≡ each (step l.known (routes l.known)) 0 l.fn.items l.at

abbrev pub decreases-read_routes : goal.decreases-read_routes
decreases-read_routes l = 4 * depth l.tree.now + 2

abbrev pub decreases-read_route_list : goal.decreases-read_route_list
decreases-read_route_list l = 4 * depth l.tree.now

abbrev pub decreases-read_each_route : goal.decreases-read_each_route
decreases-read_each_route l = 4 * largest (map depth l.items.now) + 3

abbrev pub decreases-read_route : goal.decreases-read_route
decreases-read_route l = 4 * depth l.tree.now + 1

abbrev pub decreases-read_steps_member : goal.decreases-read_steps_member
decreases-read_steps_member l = 4 * largest (map member_depth l.fields.now.members.now) + 3

abbrev pub decreases-read_step_list : goal.decreases-read_step_list
decreases-read_step_list l = 4 * depth l.tree.now

abbrev pub decreases-read_each_step : goal.decreases-read_each_step
decreases-read_each_step l = 4 * largest (map depth l.items.now) + 3

abbrev pub decreases-read_step : goal.decreases-read_step
decreases-read_step l = 4 * depth l.tree.now + 1

abbrev pub decreases-read_subroute : goal.decreases-read_subroute
decreases-read_subroute l = 4 * depth l.tree.now

abbrev pub decreases-read_routes_member : goal.decreases-read_routes_member
decreases-read_routes_member l = 4 * largest (map member_depth l.fields.now.members.now) + 3

abbrev pub decreases-read_errors_member : goal.decreases-read_errors_member
decreases-read_errors_member l = 4 * largest (map member_depth l.fields.now.members.now) + 3

abbrev pub decreases-read_errors : goal.decreases-read_errors
decreases-read_errors l = 4 * depth l.tree.now
