use Rattle.std.proofs.Common.{refl, rules}
use Rattle.cd_desk.proofs.Untouched.{nothing_yet}
use Rattle.cd_desk.proofs.beginning.new_desk.Goals as goal

pub returns-clause-holds : goal.returns-clause-holds
returns-clause-holds g c = nothing_yet g.F.Fixtures.calls _ c.args.callers refl refl refl refl refl (search rules) (search rules) c.requires
