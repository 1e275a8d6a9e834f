use Rattle.cd_admin.proofs.Fine.{served_fine}
use Rattle.cd_admin.proofs.deciding.decide.Goals as goal

pub replaced-requires-clause-admin : goal.replaced-requires-clause-admin
replaced-requires-clause-admin g c κs within = served_fine g.M.ModuleSet.plan c.args.tree.now g.met.M.Administered.admin c.requires.served
