use Rattle.std.proofs.Common.{rules, ◌≡◌, ◌+◌, ◌∙◌, false, All, length, map, sym, ap, subst}
use Rattle.std.proofs.lemmas.List.Elements.{All-map}
use denote.Exit.{no}
use denote.Param.Send.{arg_send, arg_sync, param_send, param_sync}
use Rattle.cd_standard.specs.contracts.compiled.Compiled.{the_row}
use Rattle.cd_standard.proofs.Crossing.{configuration_send, configuration_sync}
use Rattle.cd_program.specs.Top.{standard}
use Rattle.cd_program.proofs.Loading.{null_may_run}
use Rattle.cd_saved.proofs.Held.{exits, unserved-by}
use Rattle.cd_saved.proofs.Sharing.{all-under, amounts, counted-lanes, shared-lanes}
use Rattle.cd_saved.proofs.running.run_wrapped.Goals as goal

pub run_all-status-requires-send-M-Compiled : goal.run_all-status-requires-send-M-Compiled
run_all-status-requires-send-M-Compiled g c κs within = param_send 6 _ (arg_send _ no the_row configuration_send)

pub run_all-status-requires-sync-M-Compiled : goal.run_all-status-requires-sync-M-Compiled
run_all-status-requires-sync-M-Compiled g c κs within = param_sync 6 _ (arg_sync _ no the_row configuration_sync)

pub run_all-status-requires-clause-idle : goal.run_all-status-requires-clause-idle
run_all-status-requires-clause-idle g c κs within =
    let all = all-under (λ w. w.lane) (λ l. g.L.Lane.busy l ≡ false) c.wrap_lanes.new.wrapped.items (subst (All (λ l. g.L.Lane.busy l ≡ false)) (sym c.wrap_lanes.ensures.lanes) c.requires.idle) in
    subst (All (λ w. g.L.Lane.busy w.lane ≡ false)) (sym c.from_vec.ensures) all

pub returns-clause-idle : goal.returns-clause-idle
returns-clause-idle g c =
    let is : c.into_vec-served.result.items ≡ c.run_all-status.result.lanes = search rules in
    let all = subst (All (λ w. g.L.Lane.busy w.lane ≡ false)) (sym is) c.run_all-status.ensures.idle in
    let held = subst (All (λ l. g.L.Lane.busy l ≡ false)) (sym c.unwrap_lanes.ensures.lanes) (All-map (λ l. g.L.Lane.busy l ≡ false) (λ w. w.lane) c.into_vec-served.result.items all) in
    subst (All (λ l. g.L.Lane.busy l ≡ false)) (sym c.from_vec-2.ensures) held

pub returns-clause-ran : goal.returns-clause-ran
returns-clause-ran g c =
    let olds = c.wrap_lanes.new.wrapped.items in
    let news = c.into_vec-served.result.items in
    let before : c.from_vec.result ≡ olds = search rules in
    let now : c.run_all-status.result.lanes ≡ news = search rules in
    let after : c.from_vec-2.result ≡ map (λ w. w.lane) news = c.from_vec-2.ensures ∙ c.unwrap_lanes.ensures.lanes in
    let same : length news ≡ length olds = sym (ap length now) ∙ c.run_all-status.ensures.count ∙ ap length before in
    let befores : map (λ w. w.lane) c.from_vec.result ≡ c.args.lanes.items = ap (map (λ w. w.lane)) before ∙ c.wrap_lanes.ensures.lanes in
    let nows : map (λ w. w.lane) c.run_all-status.result.lanes ≡ c.from_vec-2.result = ap (map (λ w. w.lane)) now ∙ sym after in
    let spans_are = shared-lanes g.L.Lane.faults g.L.Lane.past g.L.Lane.since (λ w. w.lane) (λ w. w.share.amount) olds news c.from_vec.result c.run_all-status.result.lanes c.args.lanes.items c.from_vec-2.result
    before now c.wrap_lanes.ensures.lanes after same c.wrap_lanes.ensures.shares in
    record {
      shares = map (λ w. w.share.amount) news;
      count = counted-lanes g.L.Lane.faults g.L.Lane.past g.L.Lane.since (λ w. w.lane) (λ w. w.share.amount) olds news c.args.lanes.items c.from_vec-2.result c.wrap_lanes.ensures.lanes after same;
      total_is = amounts g.L.Lane.faults g.L.Lane.past g.L.Lane.since (λ w. w.lane) (λ w. w.share.amount) news ∙ sym c.unwrap_lanes.ensures.amount;
      ends = exits (λ w. w.lane) _ standard c.args.initial c.run_all-status.result.status _ c.args.lanes.items c.from_vec-2.result spans_are befores nows (c.run_all-status.ensures.ends null_may_run);
      short = λ fell. unserved-by (λ w. w.lane) _ _ c.args.lanes.items c.from_vec-2.result befores nows (c.run_all-status.ensures.unbegun fell);
    }
