use Rattle.std.proofs.Common.{◌+◌, ◌*◌, length, map}
use Rattle.cd_routes.specs.Running.{run_route, run_step}
use Rattle.cd_routes.specs.Work.{total}
use Rattle.cd_chain.specs.Indexes.{IsBegun}
use Rattle.cd_chain.specs.Laying.{entered_by}
use Rattle.cd_chain.proofs.Layouts.{LaidBut, route_size, step_size}
use Rattle.cd_chain.proofs.compiling.Compiler.+compiling.Given as goal

abbrev pub decreases-lay_routes : goal.decreases-lay_routes
decreases-lay_routes l = 8 * total (map route_size l.routes) + 1

abbrev pub decreases-lay_few : goal.decreases-lay_few
decreases-lay_few l = 8 * total (map route_size l.routes)

abbrev pub decreases-lay_many : goal.decreases-lay_many
decreases-lay_many l = 8 * total (map route_size l.routes)

abbrev pub decreases-lay_indexed : goal.decreases-lay_indexed
decreases-lay_indexed l = 8 * route_size l.route + 5

abbrev pub decreases-lay_route : goal.decreases-lay_route
decreases-lay_route l = 8 * route_size l.route + 3

abbrev pub decreases-lay_steps : goal.decreases-lay_steps
decreases-lay_steps l = 8 * total (map step_size l.steps)

abbrev pub decreases-lay_step : goal.decreases-lay_step
decreases-lay_step l = 8 * step_size l.step + 3

abbrev pub invariant-lay_few-loop-route : goal.invariant-lay_few-loop-route
invariant-lay_few-loop-route l =
    LaidBut (run_route (entered_by l.fn.plan.places.items l.self.entries.now l.self.names.now)) route_size l.fn.plan.places.items l.plan.places.items l.plan.indexes.items l.fn.routes l.routes l.fn.rest l.begin

abbrev pub decreases-lay_few-loop-route : goal.decreases-lay_few-loop-route
decreases-lay_few-loop-route l = length l.routes

abbrev pub invariant-lay_many-loop-route : goal.invariant-lay_many-loop-route
invariant-lay_many-loop-route l = record {
  laid : LaidBut (run_route (entered_by l.fn.plan.places.items l.self.entries.now l.self.names.now)) route_size l.fn.plan.places.items l.plan.places.items l.plan.indexes.items l.fn.routes l.routes l.fn.rest l.begin;
  begun : IsBegun l.plan.places.items l.index l.begin;
}

abbrev pub decreases-lay_many-loop-route : goal.decreases-lay_many-loop-route
decreases-lay_many-loop-route l = length l.routes

abbrev pub invariant-lay_steps-loop-step : goal.invariant-lay_steps-loop-step
invariant-lay_steps-loop-step l =
    LaidBut (run_step (entered_by l.fn.plan.places.items l.self.entries.now l.self.names.now)) step_size l.fn.plan.places.items l.plan.places.items l.plan.indexes.items l.fn.steps l.steps l.fn.rest l.begin

abbrev pub decreases-lay_steps-loop-step : goal.decreases-lay_steps-loop-step
decreases-lay_steps-loop-step l = length l.steps
