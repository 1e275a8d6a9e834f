use Rattle.std.proofs.Common.{inl, refl, subst, option_map}
use Rattle.cd_life.specs.Shares.{conf_in}
use Rattle.cd_gate.specs.Passes.{opening_of}
use Rattle.cd_outside.specs.Counts.{Rose}
use Rattle.cd_host.specs.Hosting.{observed_of}
use Rattle.cd_host.proofs.Gone.{spans-untouched}
use Rattle.cd_host.proofs.Promised.{refused-rose}
use Rattle.cd_host.proofs.hosting.run_host.Goals as goal

pub returns-in_default-clause-promises : goal.returns-in_default-clause-promises
returns-in_default-clause-promises g c =
    rw c.undone.ensures (inl (record { calls = refl; failed = refl; lanes = spans-untouched g.L.Lane.faults g.L.Lane.past g.L.Lane.since c.args.lanes.items; unanswered = refl; unpublished = refl; uncut = refl; none = refl }))

pub returns-in-Ok-new-clause-refused : goal.returns-in-Ok-new-clause-refused
returns-in-Ok-new-clause-refused g c key is =
    subst (λ before. Rose (g.F.Fixtures.faults before) (g.F.Fixtures.faults c.run_hall.result.fixtures)) c.in-Ok-new.ensures.fixtures
    (refused-rose _ c.args.first.tree
    (observed_of g.F.Fixtures.calls g.F.Fixtures.faults g.L.Lane.faults g.L.Lane.past g.L.Lane.since (opening_of c.in-Ok-new.hall.gate).desk.fixtures c.run_hall.result.fixtures c.args.lanes.items c.run_hall.result.lanes.items
    c.run_hall.result.answered c.run_hall.result.published c.run_hall.result.cut (option_map (λ last. conf_in last) c.run_hall.result.last))
    key c.run_hall.result.how is c.run_hall.ensures.promises)

pub returns-in-Err-clause-promises : goal.returns-in-Err-clause-promises
returns-in-Err-clause-promises g c =
    let fixtures = c.in-Err.ensures.err in
    rw c.undone-in-Err.ensures (rw fixtures (inl (record { calls = refl; failed = refl; lanes = spans-untouched g.L.Lane.faults g.L.Lane.past g.L.Lane.since c.args.lanes.items; unanswered = refl; unpublished = refl; uncut = refl; none = refl })))
