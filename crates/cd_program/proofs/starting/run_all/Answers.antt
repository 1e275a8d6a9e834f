use Rattle.std.proofs.Common.{option_map, Err, ap, refl, sym}
use Rattle.cd_life.specs.Shares.{conf_in}
use Rattle.cd_program.specs.Seen.{seen}
use Rattle.cd_program.specs.Top.{code_of}
use Rattle.cd_program.proofs.Declined.{serves}
use Rattle.cd_program.proofs.RunEnds.{map_none, run_ends, run_short}
use Rattle.cd_program.proofs.starting.run_all.Goals as goal

-- the run went so, and its last line was written so
pub returns-in-Ok-clause-ends : goal.returns-in-Ok-clause-ends
returns-in-Ok-clause-ends g c = λ fine.
    let end = c.run_host-end.result in
    let told = c.run_host-end.ensures in
    let is = c.conclude.ensures.2 in
    record {
      status = c.conclude.ensures.0;
      is = ap (λ e. e.status) is;
      so = rw (is, sym c.into_vec.ensures)
          (run_ends (record { acts = g.M.ModuleSet.acts; plan = g.M.ModuleSet.plan }) c.args.initial
          (seen g.S.Source.left g.S.Source.faults g.O.Sink.holds g.O.Sink.faults g.F.Fixtures.calls g.F.Fixtures.faults g.L.Lane.past g.L.Lane.since g.L.Lane.faults
          c.args.config.now c.load_initial.new.config c.args.out.now c.conclude.new.out c.args.fixtures c.into_vec.result.items
          (record { status = code_of c.conclude.ensures.0; fixtures = end.fixtures; lanes = end.lanes.items; answered = end.answered; published = end.published; cut = end.cut }))
          (g.O.Sink.holds c.run_host-end.new.out) (g.O.Sink.faults c.run_host-end.new.out)
          c.in-Ok.loaded.tree c.in-Ok.ensures.fine (option_map (λ last. conf_in last) end.last) told.later
          end.how told.promises told.said told.refused told.write_fault
          (λ not. let back = told.untouched not in record { lanes = ap (λ v. v.items) back.0; unanswered = back.1; uncut = back.2 })
          (λ none. let nothing = told.nothing (map_none (λ last. conf_in last) end.last none) in nothing.1)
          c.conclude.ensures.0 c.conclude.ensures.1);
    }

-- the first line was not written whole
pub returns-in-Ok-clause-unbegun : goal.returns-in-Ok-clause-unbegun
returns-in-Ok-clause-unbegun g c = λ fell.
    let end = c.run_host-end.result in
    let told = c.run_host-end.ensures in
    rw (c.conclude.ensures.2, sym c.into_vec.ensures)
    (run_short (record { acts = g.M.ModuleSet.acts; plan = g.M.ModuleSet.plan }) c.args.initial
    (seen g.S.Source.left g.S.Source.faults g.O.Sink.holds g.O.Sink.faults g.F.Fixtures.calls g.F.Fixtures.faults g.L.Lane.past g.L.Lane.since g.L.Lane.faults
    c.args.config.now c.load_initial.new.config c.args.out.now c.conclude.new.out c.args.fixtures c.into_vec.result.items
    (record { status = code_of c.conclude.ensures.0; fixtures = end.fixtures; lanes = end.lanes.items; answered = end.answered; published = end.published; cut = end.cut }))
    (g.O.Sink.holds c.run_host-end.new.out) (g.O.Sink.faults c.run_host-end.new.out)
    end.how told.said (λ not. let back = told.untouched not in record { lanes = ap (λ v. v.items) back.0; unanswered = back.1; uncut = back.2 })
    c.conclude.ensures.0 c.conclude.ensures.1 fell)

-- there is no configuration
pub returns-in-Err-clause-ends : goal.returns-in-Err-clause-ends
returns-in-Err-clause-ends g c = λ fine.
    rw c.unbegun.ensures (record {
      status = c.decline.result;
      is = refl;
      so = serves (record { acts = g.M.ModuleSet.acts; plan = g.M.ModuleSet.plan }) c.args.initial _ c.in-Err.why fine
          (record { unserved = record { lanes = refl; unanswered = refl; uncut = refl }; fixtures = refl; unpublished = refl })
          (λ refusal is. c.in-Err.ensures.refused refusal (ap Err is)) (λ is. c.in-Err.ensures.failed (ap Err is)) c.decline.result c.decline.ensures;
    })
