use Rattle.cd_admin.proofs.Fine.{makes_fine}
use Rattle.cd_admin.proofs.laws.changes_are_fine.Goals as goal

pub returns : goal.returns
returns c = makes_fine
