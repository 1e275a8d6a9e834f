use Rattle.std.proofs.Common.{◌+◌, drop, ap, ◌∙◌}
use Rattle.std.proofs.lemmas.Result.{err_from_is_err_and}
use Rattle.std.specs.List.{flat_map}
use Rattle.cd_text.specs.Steps.{◌▷◌}
use Rattle.cd_standard.specs.Loading.{each_checked, app_servers}
use Rattle.cd_standard.proofs.Checked.{each_left, may_left}
use Rattle.cd_standard.proofs.checks.check_apps.Goals as goal

pub check_app-requires : goal.check_app-requires
check_app-requires c = (may_left c.args.check c.args.apps.now c.loop-app.app-index c.app-item.result c.loop-app-test.true c.app-item.is c.loop-app.invariant.may).0

pub returns-in_err-check_app : goal.returns-in_err-check_app
returns-in_err-check_app c =
    let p = err_from_is_err_and c.from_residual.result c.from_residual.ensures.1 in
    let left = each_left c.args.check c.args.apps.now c.loop-app.app-index c.app-item.result c.loop-app-test.true c.app-item.is in
    rw (p.1, p.2) (λ ne. c.loop-app.invariant.same ∙ left ∙ ap (λ r. r ▷ λ _. each_checked c.args.check (flat_map app_servers (drop (c.loop-app.app-index + 1) c.args.apps.now))) (c.in_err-check_app.ensures ne))

pub loop-app-preserved : goal.loop-app-preserved
loop-app-preserved c =
    let left = each_left c.args.check c.args.apps.now c.loop-app.app-index c.app-item.result c.loop-app-test.true c.app-item.is in
    record {
      same = c.loop-app.invariant.same ∙ left ∙ ap (λ r. r ▷ λ _. each_checked c.args.check (flat_map app_servers (drop (c.loop-app.app-index + 1) c.args.apps.now))) c.in_ok-check_app.ensures;
      may = (may_left c.args.check c.args.apps.now c.loop-app.app-index c.app-item.result c.loop-app-test.true c.app-item.is c.loop-app.invariant.may).1;
    }
