use Rattle.cd_life.specs.Shares.{conf_in}
use Rattle.cd_pair.proofs.Following.{runs-is}
use Rattle.cd_pair.proofs.origins.runs.Goals as goal

pub returns : goal.returns
returns g c = runs-is c.compiled.result.now.running (conf_in c.args.ticket.now.share) c.compiled.ensures.acts
