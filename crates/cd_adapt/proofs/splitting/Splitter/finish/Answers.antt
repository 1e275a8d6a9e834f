use Rattle.cd_adapt.proofs.SplitSteps.{ended_none}
use Rattle.cd_adapt.proofs.splitting.Splitter.finish.Goals as goal

pub returns-in-None-clause-sites : goal.returns-in-None-clause-sites
returns-in-None-clause-sites c tests_of = ended_none tests_of c.args.self.sites c.args.self.current c.in-None.is
