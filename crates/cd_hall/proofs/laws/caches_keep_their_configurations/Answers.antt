use Rattle.cd_hall.proofs.Cached.{cache_stays}
use Rattle.cd_hall.proofs.laws.caches_keep_their_configurations.Goals as goal

pub returns : goal.returns
returns g c v w is seen history = cache_stays v w c.args.cache.now is seen history
