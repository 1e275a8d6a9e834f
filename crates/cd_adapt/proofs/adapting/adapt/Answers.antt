use Rattle.std.proofs.Common.{◌≡◌, ap, sym, ◌∙◌, subst, List, map, Result}
use Rattle.cd_text.specs.Gives.{Gives}
use Rattle.cd_caddyfile.specs.Adapting.{out_of_memory, within_limits}
use Rattle.cd_caddyfile.specs.FileSites.{tests_named}
use Rattle.cd_caddyfile.specs.Shape.{shape}
use Rattle.cd_caddyfile.specs.declared.fault.CaddyfileFault.{CaddyfileFault}
use Rattle.cd_tree.specs.declared.tree.Tree.{Tree}
use Rattle.cd_adapt.specs.Serving.{AgreesAll}
use Rattle.cd_adapt.specs.Splitting.{site_made}
use Rattle.cd_parts.specs.declared.matchers.SetTable.{SetTable}
use Rattle.cd_adapt.specs.declared.splitting.SiteLines.{SiteLines}
use Rattle.cd_adapt.proofs.AdaptSteps.{is_read, is_faulty, step_failed, adapted_is}
use Rattle.cd_adapt.proofs.Sounds.{given_sound}
use Rattle.cd_adapt.proofs.ServingLaws.{table_agrees}
use Rattle.cd_adapt.proofs.TextSteps.{file_texts, matchers_texts}
use Rattle.cd_adapt.proofs.adapting.adapt.Goals as goal

pub returns-in_err-matchers-clause-exact : goal.returns-in_err-matchers-clause-exact
returns-in_err-matchers-clause-exact c = step_failed _ _ _ c.from_residual.ensures.1 (λ other. is_faulty c.args.bytes.now _ (c.in_err-matchers.ensures other))

pub returns-clause-exact : goal.returns-clause-exact
returns-clause-exact c =
    let bytes = c.args.bytes.now in
    let m = c.in_ok-matchers.matchers in
    let tests_of = tests_named m.defined m.tested in
    let read = is_read bytes m c.in_ok-matchers.ensures in
    let t = shape (map (site_made tests_of) c.as_slice.result.now) in
    let agrees : AgreesAll c.in_ok-table.table tests_of = subst (λ (x : SetTable). AgreesAll x tests_of) (sym c.in_ok-table.ensures) (table_agrees m) in
    let sites-are : map (site_made tests_of) c.as_slice.result.now ≡ map (site_made tests_of) c.in_ok-sites.sites = ap (λ (l : List SiteLines). map (site_made tests_of) l) c.as_slice.ensures in
    subst (λ (r : Result Tree CaddyfileFault). Gives out_of_memory c.within_limits.result r)
    (adapted_is bytes m (within_limits t) read (ap (λ ss. within_limits (shape ss)) (sites-are ∙ sym (c.in_ok-sites.ensures.sites tests_of))))
    (c.within_limits.ensures t (c.in_ok-made.ensures tests_of agrees))

pub returns-clause-sound : goal.returns-clause-sound
returns-clause-sound c = given_sound c.args.bytes.now c.within_limits.result (returns-clause-exact c)

pub table_of-requires : goal.table_of-requires
table_of-requires c =
    let read = is_read c.args.bytes.now c.in_ok-matchers.matchers c.in_ok-matchers.ensures in
    matchers_texts c.args.bytes.now c.in_ok-matchers.matchers read.matchers (file_texts c.args.bytes.now read.no_fault)

pub sites_of-requires-clause-texts : goal.sites_of-requires-clause-texts
sites_of-requires-clause-texts c = file_texts c.args.bytes.now (is_read c.args.bytes.now c.in_ok-matchers.matchers c.in_ok-matchers.ensures).no_fault
