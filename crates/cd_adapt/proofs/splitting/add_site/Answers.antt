use Rattle.cd_caddyfile.proofs.WordSteps.{on_ok}
use Rattle.std.proofs.Common.{refl}
use Rattle.cd_adapt.proofs.SplitSteps.{added_site, added_whole, no_site}
use Rattle.cd_adapt.proofs.splitting.add_site.Goals as goal

pub returns-in-None-clause-sites : goal.returns-in-None-clause-sites
returns-in-None-clause-sites c tests_of = no_site tests_of c.args.sites.now c.args.site c.in-None.is

pub returns-in-Some-clause-sites : goal.returns-in-Some-clause-sites
returns-in-Some-clause-sites c = on_ok c.push.result (λ is tests_of. added_site tests_of c.args.sites.now c.push.new.self _ c.args.site is c.in-Some.is refl refl) c.push.ensures.ok

pub returns-in-Some-clause-whole : goal.returns-in-Some-clause-whole
returns-in-Some-clause-whole c = on_ok c.push.result (λ is. added_whole c.args.sites.now c.push.new.self _ c.args.site is c.in-Some.is refl c.requires.levels c.requires.texts c.requires.whole) c.push.ensures.ok
