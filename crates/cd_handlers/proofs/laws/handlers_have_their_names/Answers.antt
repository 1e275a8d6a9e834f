use Rattle.cd_handlers.proofs.Naming.{name_kept}
use Rattle.cd_handlers.proofs.laws.handlers_have_their_names.Goals as goal

pub returns : goal.returns
returns c = name_kept c.args.tree.now c.args.at.now
