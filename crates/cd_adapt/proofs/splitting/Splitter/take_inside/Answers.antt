use Rattle.std.proofs.Common.{refl, sym, ap, ◌∙◌, Some}
use Rattle.cd_caddyfile.proofs.WordSteps.{on_ok}
use Rattle.cd_adapt.proofs.SplitSteps.{closed_now, inside_split, inside_sites, closed_sites}
use Rattle.cd_adapt.proofs.splitting.Splitter.take_inside.Goals as goal

pub returns-then-ends_site-clause-sites : goal.returns-then-ends_site-clause-sites
returns-then-ends_site-clause-sites c = on_ok c.add_site.result (λ known tests_of after.
    closed_sites tests_of c.args.number c.args.self.now _ c.args.site c.args.line after (sym c.ends_site.ensures ∙ c.if-ends_site.true) c.requires.none (known tests_of)) c.add_site.ensures.sites

pub returns-clause-split : goal.returns-clause-split
returns-clause-split c =
    inside_split c.args.number c.args.self.now _ c.args.site c.args.line (sym c.ends_site.ensures ∙ c.if-ends_site.false) refl (ap Some c.in_ok-with_line.ensures) c.requires.texts c.requires.open

pub returns-clause-sites : goal.returns-clause-sites
returns-clause-sites c tests_of after =
    inside_sites tests_of c.args.number c.args.self.now _ c.args.site c.args.line after (sym c.ends_site.ensures ∙ c.if-ends_site.false) refl (ap Some c.in_ok-with_line.ensures)

pub add_site-requires-clause-texts : goal.add_site-requires-clause-texts
add_site-requires-clause-texts c = c.requires.open.open_site.1

pub add_site-requires-clause-levels : goal.add_site-requires-clause-levels
add_site-requires-clause-levels c = closed_now c.args.site c.requires.open.open_site
