use Rattle.std.proofs.Common.{◌≡◌, ◌≤◌, ◌+◌, ◌∙◌, map, ap, sym, subst, refl, arith}
use Rattle.cd_index.specs.Tables.{IsCandidate}
use Rattle.cd_routes.specs.declared.route.Route.{out-Route}
use Rattle.cd_routes.specs.declared.route.Subroute.{out-Subroute}
use Rattle.cd_routes.specs.Running.{Named, run_route, run_routes, run_step, run_steps}
use Rattle.cd_routes.specs.Work.{total, errors_weight, subroute_weight}
use Rattle.cd_routes.proofs.Equations.{run_handler_is, route_weight_is, subroute_weight_is}
use Rattle.cd_chain.specs.declared.index.Index.{Index}
use Rattle.cd_chain.specs.Places.{at}
use Rattle.cd_chain.specs.Laying.{entered_by}
use Rattle.cd_chain.proofs.Indexes.{all_grown, first_begun, route_begun}
use Rattle.cd_chain.proofs.Layouts.{plain, route_size, step_size, route_added, route_falls, plain_added, try_added, grows_by, grows_on, entered_kept, still_laid, errors_weigh, none_yet, may_next, next_small, next_laid, all_laid}
use Rattle.cd_chain.proofs.compiling.Compiler.+compiling.Goals as goal

-- ---- a route

pub lay_route-lay_steps-requires : goal.lay_route-lay_steps-requires
lay_route-lay_steps-requires t c =
    let e : route_size c.args.route ≡ 1 + total (map step_size (out-Route c.args.route).handle) = route_weight_is plain c.args.route in
    (omega arith, record { rest = omega (arith, c.after.ensures.within, c.requires.rest); entries = c.requires.entries; sound = c.requires.sound })

pub lay_route-returns-clause-laid : goal.lay_route-returns-clause-laid
lay_route-returns-clause-laid t c =
    let e : Named = entered_by c.args.plan.now.places.items c.args.self.now.entries.now c.args.self.now.names.now in
    record {
      meaning = λ back.
          route_added e c.args.route c.args.plan.now.places.items c.lay_steps.new.plan.places.items c.add.new.places.items c.args.rest c.in_ok-inside.inside c.in_ok-begin.begin c.args.entry back
          (c.in_ok-inside.ensures.meaning back ∙ ap (λ k. run_steps e (out-Route c.args.route).handle (at c.args.plan.now.places.items k back)) c.after.ensures.value)
          (c.in_ok-inside.ensures.grows.kept c.args.rest c.requires.rest)
          c.in_ok-begin.ensures.items c.in_ok-begin.ensures.number;
      within = omega (arith, c.in_ok-begin.ensures.number);
      grows = grows_on _ _ _ c.in_ok-inside.ensures.grows (grows_by _ _ _ c.in_ok-begin.ensures.items);
      sound = all_grown _ _ _ (grows_by _ _ _ c.in_ok-begin.ensures.items) c.in_ok-inside.ensures.sound;
    }

pub lay_route-returns-clause-falls : goal.lay_route-returns-clause-falls
lay_route-returns-clause-falls t c back =
    route_falls c.args.plan.now.places.items c.lay_steps.new.plan.places.items c.add.new.places.items c.args.rest c.in_ok-inside.inside c.in_ok-begin.begin _ _ c.args.entry back
    (c.in_ok-inside.ensures.grows.steps c.args.rest c.requires.rest) c.in_ok-begin.ensures.items c.in_ok-begin.ensures.number

-- ---- routes without an index

pub lay_few-lay_route-requires : goal.lay_few-lay_route-requires
lay_few-lay_route-requires t c =
    let s : 1 + route_size c.in-Some.route ≤ total (map route_size c.args.routes) = next_small _ _ _ _ _ _ _ _ _ _ _ c.loop-route.invariant c.in-Some.ensures in
    (omega (arith, s), may_next _ _ _ _ _ _ _ _ _ _ _ c.requires c.loop-route.invariant)

pub lay_few-loop-route-init : goal.lay_few-loop-route-init
lay_few-loop-route-init t c = none_yet _ _ _ _ _ _ c.requires.rest c.requires.sound

pub lay_few-loop-route-preserved : goal.lay_few-loop-route-preserved
lay_few-loop-route-preserved t c =
    next_laid run_route route_size c.args.plan.now.places.items c.loop-route.plan.places.items c.lay_route.new.plan.places.items _ _ _ c.args.self.now.entries.now c.args.self.now.names.now
    c.args.routes c.loop-route.routes c.pop.new.self c.in-Some.route c.args.rest c.loop-route.begin c.in_ok-begin.begin c.requires c.loop-route.invariant c.in-Some.ensures c.in_ok-begin.ensures.laid

pub lay_few-returns : goal.lay_few-returns
lay_few-returns t c = all_laid _ _ _ _ _ _ _ _ _ _ c.loop-route.invariant c.in_default.ensures.0 c.loop-route.invariant.sound

-- ---- routes with an index

pub lay_many-lay_indexed-requires : goal.lay_many-lay_indexed-requires
lay_many-lay_indexed-requires t c =
    let s : 1 + route_size c.in-Some.route ≤ total (map route_size c.args.routes) = next_small _ _ _ _ _ _ _ _ _ _ _ c.loop-route.invariant.laid c.in-Some.ensures in
    (omega (arith, s), (may_next _ _ _ _ _ _ _ _ _ _ _ c.requires c.loop-route.invariant.laid, c.loop-route.invariant.begun))

pub lay_many-loop-route-init : goal.lay_many-loop-route-init
lay_many-loop-route-init t c = record {
  laid = none_yet _ _ _ _ _ _ c.requires.rest (c.in_ok-number.ensures c.args.plan.now.places.items c.requires.sound);
  begun = first_begun c.args.plan.now.places.items c.in_ok-index.index c.args.rest c.requires.rest c.in_ok-index.ensures.numbers c.in_ok-index.ensures.top;
}

pub lay_many-loop-route-preserved : goal.lay_many-loop-route-preserved
lay_many-loop-route-preserved t c = record {
  laid =
      next_laid run_route route_size c.args.plan.now.places.items c.loop-route.plan.places.items c.lay_indexed.new.plan.places.items _ _ _ c.args.self.now.entries.now c.args.self.now.names.now
      c.args.routes c.loop-route.routes c.pop.new.self c.in-Some.route c.args.rest c.loop-route.begin c.in_ok-begin.begin c.requires c.loop-route.invariant.laid c.in-Some.ensures c.in_ok-begin.ensures.laid;
  begun = c.in_ok-begin.ensures.begun;
}

pub lay_many-returns : goal.lay_many-returns
lay_many-returns t c =
    all_laid _ _ _ _ _ _ _ _ _ _ c.loop-route.invariant.laid c.in_default.ensures.0
    (c.put_index.ensures c.loop-route.plan.places.items c.loop-route.invariant.laid.sound c.loop-route.invariant.begun.sound)

pub lay_indexed-returns-clause-begun : goal.lay_indexed-returns-clause-begun
lay_indexed-returns-clause-begun t c =
    let noted : Index = record { numbers = c.args.index.now.numbers; table = c.note.new.table } in
    let last : Index = record { numbers = c.push.new.self; table = c.note.new.table } in
    let laid = c.in_ok-begin.ensures.laid in
    route_begun (entered_by c.args.plan.now.places.items c.args.self.now.entries.now c.args.self.now.names.now) c.args.route c.args.plan.now.places.items c.lay_route.new.plan.places.items c.args.index.now noted last c.args.rest c.in_ok-begin.begin
    c.requires.begun laid.grows laid.within refl (omega (arith, c.in_ok-note.ensures.top, c.len-position.ensures)) c.in_ok-note.ensures.kept
    (λ x held. subst (IsCandidate c.note.new.table x.current.path) c.len-position.ensures (c.in_ok-note.ensures.noted x held)) c.in_ok-push.ensures.ok refl laid.meaning c.in_ok-begin.ensures.falls

-- ---- steps

pub lay_steps-lay_step-requires : goal.lay_steps-lay_step-requires
lay_steps-lay_step-requires t c =
    let s : 1 + step_size c.in-Some.step ≤ total (map step_size c.args.steps) = next_small _ _ _ _ _ _ _ _ _ _ _ c.loop-step.invariant c.in-Some.ensures in
    (omega (arith, s), may_next _ _ _ _ _ _ _ _ _ _ _ c.requires c.loop-step.invariant)

pub lay_steps-loop-step-init : goal.lay_steps-loop-step-init
lay_steps-loop-step-init t c = none_yet _ _ _ _ _ _ c.requires.rest c.requires.sound

pub lay_steps-loop-step-preserved : goal.lay_steps-loop-step-preserved
lay_steps-loop-step-preserved t c =
    next_laid run_step step_size c.args.plan.now.places.items c.loop-step.plan.places.items c.lay_step.new.plan.places.items _ _ _ c.args.self.now.entries.now c.args.self.now.names.now
    c.args.steps c.loop-step.steps c.pop.new.self c.in-Some.step c.args.rest c.loop-step.begin c.in_ok-begin.begin c.requires c.loop-step.invariant c.in-Some.ensures c.in_ok-begin.ensures

pub lay_steps-returns : goal.lay_steps-returns
lay_steps-returns t c = all_laid _ _ _ _ _ _ _ _ _ _ c.loop-step.invariant c.in_default.ensures.0 c.loop-step.invariant.sound

-- ---- a step

pub lay_step-lay_routes-requires : goal.lay_step-lay_routes-requires
lay_step-lay_routes-requires t c =
    let e : step_size c.args.step ≡ subroute_weight plain (out-Subroute c.in-Subroute.inside) = ap step_size c.in-Subroute.is ∙ subroute_weight_is plain c.in-Subroute.inside in
    (omega arith, c.requires)

pub lay_step-lay_routes-requires-in-Some : goal.lay_step-lay_routes-requires-in-Some
lay_step-lay_routes-requires-in-Some t c =
    let e : step_size c.args.step ≡ subroute_weight plain (out-Subroute c.in-Subroute.inside) = ap step_size c.in-Subroute.is ∙ subroute_weight_is plain c.in-Subroute.inside in
    let f : total (map route_size c.in-Some.errors) ≤ errors_weight _ = errors_weigh (out-Subroute c.in-Subroute.inside).errors c.in-Some.errors c.in-Some.is in (
      omega arith,
      record {
        rest = omega (arith, c.requires.rest, c.in_ok-first-in-Subroute.ensures.grows.longer);
        entries = still_laid _ _ c.args.self.now.entries.now c.requires.entries c.in_ok-first-in-Subroute.ensures.grows;
        sound = c.in_ok-first-in-Subroute.ensures.sound;
      },
    )

pub lay_step-returns-in_ok-begin-in-Handler : goal.lay_step-returns-in_ok-begin-in-Handler
lay_step-returns-in_ok-begin-in-Handler t c =
    let e : Named = entered_by c.args.plan.now.places.items c.args.self.now.entries.now c.args.self.now.names.now in
    record {
      meaning = λ back.
          c.in_ok-begin-in-Handler.ensures.meaning back
          ∙ sym (ap (λ s. run_step e s (at c.args.plan.now.places.items c.args.rest back)) c.in-Handler.is ∙ (λ i x. run_handler_is e c.in-Handler.handler (at c.args.plan.now.places.items c.args.rest back) x i));
      within = c.in_ok-begin-in-Handler.ensures.within;
      grows = c.in_ok-begin-in-Handler.ensures.grows;
      sound = all_grown _ _ _ c.in_ok-begin-in-Handler.ensures.grows c.requires.sound;
    }

pub lay_step-returns-in-None : goal.lay_step-returns-in-None
lay_step-returns-in-None t c =
    let e : Named = entered_by c.args.plan.now.places.items c.args.self.now.entries.now c.args.self.now.names.now in
    let first = c.in_ok-first-in-Subroute.ensures in
    record {
      meaning = λ back.
          plain_added e c.in-Subroute.inside c.args.plan.now.places.items c.lay_routes.new.plan.places.items c.args.rest c.in_ok-first-in-Subroute.first back c.in-None.is (first.meaning back)
          ∙ ap (λ s. run_step e s (at c.args.plan.now.places.items c.args.rest back)) (sym c.in-Subroute.is);
      within = first.within;
      grows = first.grows;
      sound = first.sound;
    }

pub lay_step-returns-in_ok-begin-in-Some : goal.lay_step-returns-in_ok-begin-in-Some
lay_step-returns-in_ok-begin-in-Some t c =
    let e : Named = entered_by c.args.plan.now.places.items c.args.self.now.entries.now c.args.self.now.names.now in
    let first = c.in_ok-first-in-Subroute.ensures in
    let second = c.in_ok-second-in-Some.ensures in
    let same : entered_by c.lay_routes.new.plan.places.items c.args.self.now.entries.now c.args.self.now.names.now ≡ e = entered_kept _ _ c.args.self.now.entries.now c.args.self.now.names.now c.requires.entries first.grows in
    record {
      meaning = λ back.
          try_added e c.in-Subroute.inside c.in-Some.errors c.args.plan.now.places.items c.lay_routes.new.plan.places.items c.lay_routes-in-Some.new.plan.places.items c.add.new.places.items
          c.args.rest c.in_ok-first-in-Subroute.first c.in_ok-second-in-Some.second c.in_ok-begin-in-Some.begin back c.in-Some.is
          (first.meaning back) (first.grows.kept c.args.rest c.requires.rest)
          (second.meaning back ∙ ap (λ (g : Named). run_routes g c.in-Some.errors (at c.lay_routes.new.plan.places.items c.args.rest back)) same)
          (second.grows.kept c.in_ok-first-in-Subroute.first first.within)
          c.in_ok-begin-in-Some.ensures.items c.in_ok-begin-in-Some.ensures.number
          ∙ ap (λ s. run_step e s (at c.args.plan.now.places.items c.args.rest back)) (sym c.in-Subroute.is);
      within = omega (arith, c.in_ok-begin-in-Some.ensures.number);
      grows = grows_on _ _ _ first.grows (grows_on _ _ _ second.grows (grows_by _ _ _ c.in_ok-begin-in-Some.ensures.items));
      sound = all_grown _ _ _ (grows_by _ _ _ c.in_ok-begin-in-Some.ensures.items) second.sound;
    }
