use Rattle.cd_site.proofs.Sites.{server_answers}
use Rattle.cd_site.proofs.server_law.sites_mean_their_routes.Goals as goal

pub returns : goal.returns
returns c sites port n server q room routes errors = server_answers sites port n server q room routes errors
