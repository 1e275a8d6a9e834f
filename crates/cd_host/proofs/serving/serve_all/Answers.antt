use Rattle.std.proofs.Common.{◌≡◌, ◌∙◌, false, sym, subst, rules}
use Rattle.std.specs.Prelude.{All}
use Rattle.cd_gate.specs.Passes.{view}
use Rattle.cd_serve.specs.Meanings.{Meaning}
use Rattle.cd_host.specs.Seats.{AllFrom, IsIdleAt}
use Rattle.cd_host.proofs.Seating.{all-served, are-served, as-many, from-map, from-to-map, lanes-idle, passes-idle, ready-are, ready-free}
use Rattle.cd_host.proofs.serving.serve_all.Goals as goal

pub serve_seated-requires-clause-is : goal.serve_seated-requires-clause-is
serve_seated-requires-clause-is g c κs within = ready-are c.args.hall.now (view c.args.root.now).seen c.seat.new.slots.items c.seat.ensures.ready

pub serve_seated-requires-clause-free : goal.serve_seated-requires-clause-free
serve_seated-requires-clause-free g c κs within = ready-free c.args.hall.now (view c.args.root.now).seen c.seat.new.slots.items c.seat.ensures.ready

pub serve_seated-requires-clause-idle : goal.serve_seated-requires-clause-idle
serve_seated-requires-clause-idle g c κs within =
    from-map (λ slot. slot.lane) (λ lane. g.L.Lane.busy lane ≡ false) c.seat.new.slots.items
    (subst (λ lanes. All (λ lane. g.L.Lane.busy lane ≡ false) lanes) (sym c.seat.ensures.lanes) c.requires.ready.idle)

pub unseat-requires-clause-slots : goal.unseat-requires-clause-slots
unseat-requires-clause-slots g c κs within =
    passes-idle c.args.hall.now (record { acts = g.M.ModuleSet.acts; plan = g.M.ModuleSet.plan }) g.L.Lane.busy g.L.Lane.faults g.L.Lane.past g.L.Lane.since 1 c.seat.new.slots.items c.serve_seated.new.slots.items (view c.args.root.now).seen
    c.seat.ensures.ready (all-served c.args.hall.now (record { acts = g.M.ModuleSet.acts; plan = g.M.ModuleSet.plan }) g.L.Lane.busy g.L.Lane.faults g.L.Lane.past g.L.Lane.since c.seat.new.slots.items c.serve_seated.new.slots.items c.serve_seated.ensures.length c.serve_seated.ensures.served)

pub returns-clause-back : goal.returns-clause-back
returns-clause-back g c =
    let m : Meaning = record { acts = g.M.ModuleSet.acts; plan = g.M.ModuleSet.plan } in
    let served = all-served c.args.hall.now m g.L.Lane.busy g.L.Lane.faults g.L.Lane.past g.L.Lane.since c.seat.new.slots.items c.serve_seated.new.slots.items c.serve_seated.ensures.length c.serve_seated.ensures.served in
    let idle = passes-idle c.args.hall.now m g.L.Lane.busy g.L.Lane.faults g.L.Lane.past g.L.Lane.since 1 c.seat.new.slots.items c.serve_seated.new.slots.items (view c.args.root.now).seen c.seat.ensures.ready served in
    record {
      root = search rules;
      seen = search rules;
      same = search rules;
      passes = subst (λ passes. AllFrom (IsIdleAt c.args.hall.now) 1 passes) (sym c.unseat.ensures.passes) (from-to-map (λ slot. slot.pass) (IsIdleAt c.args.hall.now) 1 c.serve_seated.new.slots.items idle);
      as_many_passes = as-many (λ slot. slot.pass) (λ slot. slot.lane) c.seat.new.slots.items c.serve_seated.new.slots.items c.unseat.new.passes.items c.args.lanes.now.items c.unseat.ensures.passes c.serve_seated.ensures.length c.seat.ensures.lanes ∙ sym c.requires.ready.enough;
      as_many_lanes = as-many (λ slot. slot.lane) (λ slot. slot.lane) c.seat.new.slots.items c.serve_seated.new.slots.items c.unseat.new.lanes.items c.args.lanes.now.items c.unseat.ensures.lanes c.serve_seated.ensures.length c.seat.ensures.lanes;
      idle = subst (λ lanes. All (λ lane. g.L.Lane.busy lane ≡ false) lanes) (sym c.unseat.ensures.lanes)
          (lanes-idle c.args.hall.now m g.L.Lane.busy g.L.Lane.faults g.L.Lane.past g.L.Lane.since c.seat.new.slots.items c.serve_seated.new.slots.items served);
    }

pub returns-clause-served : goal.returns-clause-served
returns-clause-served g c =
    are-served c.args.hall.now (record { acts = g.M.ModuleSet.acts; plan = g.M.ModuleSet.plan }) g.L.Lane.busy g.L.Lane.faults g.L.Lane.past g.L.Lane.since (view c.args.root.now).seen (view c.unseat.new.root).seen c.seat.new.slots.items c.serve_seated.new.slots.items c.args.lanes.now.items c.unseat.new.lanes.items
    c.unseat.new.passes.items c.unseat.result.answered c.unseat.result.cut c.seat.ensures.ready (all-served c.args.hall.now (record { acts = g.M.ModuleSet.acts; plan = g.M.ModuleSet.plan }) g.L.Lane.busy g.L.Lane.faults g.L.Lane.past g.L.Lane.since c.seat.new.slots.items c.serve_seated.new.slots.items c.serve_seated.ensures.length c.serve_seated.ensures.served)
    c.seat.ensures.lanes c.unseat.ensures.lanes c.unseat.ensures.passes c.unseat.ensures.within c.unseat.ensures.answered c.unseat.ensures.cut
