use Rattle.cd_site.proofs.Routes.{routes_read}
use Rattle.cd_site.proofs.reading_law.routes_of_sites_are_read.Goals as goal

pub returns : goal.returns
returns c known sites n at read plain fit h = routes_read known sites n at read plain fit h
