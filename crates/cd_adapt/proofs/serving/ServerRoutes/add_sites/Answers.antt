use Rattle.std.proofs.Common.{arith}
use Rattle.cd_adapt.proofs.ServingLaws.{size_on, whole_on, routes_on, totals_on, routes_done, totals_done}
use Rattle.cd_adapt.proofs.serving.ServerRoutes.add_sites.Goals as goal

pub add_site-requires-clause-whole : goal.add_site-requires-clause-whole
add_site-requires-clause-whole c = (whole_on c.loop-site.site-index c.args.sites.now c.site-item.result c.loop-site-test.true c.site-item.is c.loop-site.invariant.whole).0

pub add_site-requires-clause-few : goal.add_site-requires-clause-few
add_site-requires-clause-few c =
    omega (arith, c.loop-site.invariant.few, c.requires.few, size_on c.loop-site.site-index c.args.sites.now c.site-item.result c.loop-site-test.true c.site-item.is)

pub loop-site-preserved : goal.loop-site-preserved
loop-site-preserved c =
    let i = c.loop-site.site-index in
    let refs = c.args.sites.now in
    let x = c.site-item.result in
    let here = c.loop-site-test.true in
    let new = c.add_site.new.self in
    record {
      whole = (whole_on i refs x here c.site-item.is c.loop-site.invariant.whole).1;
      few = omega (arith, c.in_ok-add_site.ensures.few, size_on i refs x here c.site-item.is, c.loop-site.invariant.few);
      routes = λ tests_of agrees. routes_on i refs x here c.site-item.is tests_of c.loop-site.self.next new.next c.loop-site.self.routes new.routes _
          (c.in_ok-add_site.ensures.routes tests_of agrees) (c.in_ok-add_site.ensures.next tests_of agrees) (c.loop-site.invariant.routes tests_of agrees);
      next = λ tests_of agrees. totals_on i refs x here c.site-item.is tests_of c.loop-site.self.next new.next _
          (c.in_ok-add_site.ensures.next tests_of agrees) (c.loop-site.invariant.next tests_of agrees);
    }

pub returns-clause-routes : goal.returns-clause-routes
returns-clause-routes c tests_of agrees =
    routes_done tests_of c.loop-site.site-index c.loop-site.self.next c.args.sites.now c.loop-site.self.routes _ c.loop-site-test.false (c.loop-site.invariant.routes tests_of agrees)

pub returns-clause-next : goal.returns-clause-next
returns-clause-next c tests_of agrees =
    totals_done tests_of c.loop-site.site-index c.loop-site.self.next _ c.args.sites.now c.loop-site-test.false (c.loop-site.invariant.next tests_of agrees)
