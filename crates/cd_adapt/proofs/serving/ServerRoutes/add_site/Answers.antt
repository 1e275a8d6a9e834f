use Rattle.std.proofs.Common.{List, ◌+◌, refl, sym, ap, subst, ◌∙◌}
use Rattle.cd_caddyfile.proofs.WordSteps.{on_ok}
use Rattle.cd_caddyfile.specs.Blocks.{last, end}
use Rattle.cd_caddyfile.specs.FileSites.{block_of}
use Rattle.cd_caddyfile.specs.Shape.{groups_of}
use Rattle.cd_adapt.specs.Splitting.{closings, followed, lines_made, AreReadLines}
use Rattle.cd_adapt.specs.declared.splitting.Numbered.{Numbered}
use Rattle.cd_adapt.proofs.ServingLaws.{site_added}
use Rattle.cd_adapt.proofs.serving.ServerRoutes.add_site.Goals as goal

pub count_groups-requires-clause-read : goal.count_groups-requires-clause-read
count_groups-requires-clause-read c = subst AreReadLines (sym c.as_slice.ensures) c.requires.whole.lines

pub count_groups-requires-clause-closed : goal.count_groups-requires-clause-closed
count_groups-requires-clause-closed c = ap (λ (ls : List Numbered). closings (followed ls (last end))) c.as_slice.ensures ∙ c.requires.whole.closed

pub returns-clause-routes : goal.returns-clause-routes
returns-clause-routes c = on_ok c.push.result (λ new-is tests_of agrees.
    let site = c.args.site.now in
    site_added tests_of site c.args.self.now.next c.in_ok-count.count (c.args.self.now.next + c.in_ok-count.count) c.args.self.now.routes c.push.new.self c.in_ok-routes.routes c.in_ok-route.route
    (c.in_ok-count.ensures.groups (tests_of site.line) ∙ ap (λ (ls : List Numbered). groups_of (block_of (tests_of site.line) (lines_made ls))) c.as_slice.ensures)
    refl (λ first is. c.in_ok-routes.ensures (tests_of site.line) first (agrees site.line) is) c.in_ok-route.ensures new-is) c.push.ensures.ok

pub returns-clause-next : goal.returns-clause-next
returns-clause-next c = on_ok c.push.result (λ new-is tests_of agrees.
    let site = c.args.site.now in
    ap (λ n. c.args.self.now.next + n)
    (c.in_ok-count.ensures.groups (tests_of site.line) ∙ ap (λ (ls : List Numbered). groups_of (block_of (tests_of site.line) (lines_made ls))) c.as_slice.ensures)) c.push.ensures.ok
