use Rattle.std.proofs.Common.{◌+◌, Some, ap, sym, ◌∙◌}
use Rattle.cd_legal.specs.Entry.{entries}
use Rattle.cd_gate.specs.Passes.{view, opening_of}
use Rattle.cd_life.specs.Shares.{conf_in}
use Rattle.cd_host.specs.Hosting.{observed_of, is_served}
use Rattle.cd_host.proofs.FirstPass.{number-kept, made-kept, joined-kept, free-first}
use Rattle.cd_host.proofs.Promised.{decided-fit, Known, ran, come-together, goes-with, promised}
use Rattle.cd_host.proofs.hosting.run_hall.Goals as goal

pub start_first-start-requires-clause-free : goal.start_first-start-requires-clause-free
start_first-start-requires-clause-free g c κs within = free-first c.take_root-root.result c.take_root-root.ensures.root.idle.free

pub end_run-fixtures-requires-clause-number : goal.end_run-fixtures-requires-clause-number
end_run-fixtures-requires-clause-number g c κs within =
    let s = c.start_first-start.ensures.started in
    number-kept (view c.take_root-root.result) (view c.start_first-start.new.pass) (view c.serve_or_leave-counts.new.root) s.made s.signed c.serve_or_leave-counts.ensures.back.same c.take_root-root.ensures.root.idle.number

pub end_run-fixtures-requires-clause-made : goal.end_run-fixtures-requires-clause-made
end_run-fixtures-requires-clause-made g c κs within =
    let s = c.start_first-start.ensures.started in
    made-kept (view c.take_root-root.result) (view c.start_first-start.new.pass) (view c.serve_or_leave-counts.new.root) s.made s.signed c.serve_or_leave-counts.ensures.back.same
    ∙ c.take_root-root.ensures.new.1 ∙ sym (ap (λ n. n + 1) c.serve_or_leave-counts.ensures.back.as_many_passes)

pub end_run-fixtures-requires-clause-joined : goal.end_run-fixtures-requires-clause-joined
end_run-fixtures-requires-clause-joined g c κs within =
    let s = c.start_first-start.ensures.started in
    joined-kept (view c.take_root-root.result) (view c.start_first-start.new.pass) (view c.serve_or_leave-counts.new.root) s.made s.signed c.serve_or_leave-counts.ensures.back.same
    ∙ c.take_root-root.ensures.new.2

pub returns-clause-promises : goal.returns-clause-promises
returns-clause-promises g c =
    let s = c.start_first-start.ensures.started in
    let end = c.end_run-fixtures.ensures in
    let known : Known (record { acts = g.M.ModuleSet.acts; plan = g.M.ModuleSet.plan }) c.args.first.tree c.args.first.plan (is_served c.announce-how.result)
    (observed_of g.F.Fixtures.calls g.F.Fixtures.faults g.L.Lane.faults g.L.Lane.past g.L.Lane.since (opening_of c.args.hall.gate).desk.fixtures c.end_run-fixtures.result.fixtures c.args.lanes.items c.serve_or_leave-counts.new.lanes.items
    c.serve_or_leave-counts.result.answered c.end_run-fixtures.result.published c.serve_or_leave-counts.result.cut (Some (conf_in c.end_run-fixtures.result.last)))
    (view c.take_root-root.result) (view c.start_first-start.new.pass) (view c.serve_or_leave-counts.new.root) c.serve_or_leave-counts.new.passes.items end.0 = record {
      number = c.take_root-root.ensures.root.idle.number;
      new_seen = c.take_root-root.ensures.new.0;
      new_mine = c.take_root-root.ensures.root.mine;
      made = s.made;
      starts = s.signed;
      start = s.start;
      alone = λ alone. s.alone c.take_root-root.ensures.root.idle.number alone c.take_root-root.ensures.new.0;
      which = goes-with c.start_first-start.result s.start c.announce-how.result s.is c.announce-how.ensures.follows;
      told = c.serve_or_leave-counts.ensures.back.seen;
      same = c.serve_or_leave-counts.ensures.back.same;
      closed = end.1;
      come = come-together (view c.serve_or_leave-counts.new.root) c.serve_or_leave-counts.new.passes.items end.0 end.1 _ _ _ _ _ _ c.serve_or_leave-counts.ensures.gone;
      planned = c.args.first.planned;
      fits = decided-fit g.M.ModuleSet.plan g.M.ModuleSet.change (entries end.0) c.changes_are_decided.ensures end.2;
      calls = end.3;
      failed = end.4;
      published = end.6;
      last = ap (λ conf. Some conf) end.5;
    } in
    promised _ c.args.first.tree _ c.start_first-start.result s.start c.announce-how.result s.is c.announce-how.ensures.follows (ran _ _ _ _ _ _ _ _ _ _ known)
