use Rattle.cd_admin.specs.Deciding.{change_of}
use Rattle.cd_admin.proofs.laws.changes_are_decided.Goals as goal

pub returns : goal.returns
unfolding change_of
returns g c = g.met.M.Administered.changes
