use Rattle.std.proofs.Common.{◌∙◌, sym, ap, refl}
use Rattle.std.specs.Prelude.{slice_get}
use Rattle.std.specs.Option.{option_and_then}
use Rattle.std.proofs.lemmas.Option.{slice_get_read}
use Rattle.cd_standard.specs.Compiled.{app_servers, has_address}
use Rattle.cd_standard.specs.declared.compiled.CompiledApp.{CompiledApp}
use Rattle.cd_standard.proofs.Finding.{found_here, not_here}
use Rattle.cd_standard.proofs.acting.server_of_apps.Goals as goal

pub returns-in-Some : goal.returns-in-Some
returns-in-Some c =
    let apps = c.args.apps.now in
    let place = c.loop-place.place in
    let app = c.index-apps-place.result in
    let it = c.in-Some.ensures in
    let found = found_here (has_address c.args.at.now) app_servers apps place app it.0 c.loop-place-test.true c.index-apps-place.is it.1 in
    let numbered = ap (option_and_then (λ (a : CompiledApp). slice_get (app_servers a) c.in-Some.server)) (slice_get_read apps _ place app refl c.loop-place-test.true c.index-apps-place.is) in
    (refl, (it.0, sym c.loop-place.invariant ∙ found, numbered ∙ it.2))

pub loop-place-preserved : goal.loop-place-preserved
loop-place-preserved c =
    sym (not_here (has_address c.args.at.now) app_servers c.args.apps.now c.loop-place.place c.index-apps-place.result c.loop-place-test.true c.index-apps-place.is c.in_default.ensures)
    ∙ c.loop-place.invariant
