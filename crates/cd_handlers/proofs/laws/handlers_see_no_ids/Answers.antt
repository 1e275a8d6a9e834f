use Rattle.cd_module.proofs.Bare.{alike}
use Rattle.cd_handlers.specs.Handlers.{handler}
use Rattle.cd_handlers.proofs.Bare.{handler-bare}
use Rattle.cd_handlers.proofs.laws.handlers_see_no_ids.Goals as goal

pub returns : goal.returns
returns c = λ e. alike handler handler-bare c.args.tree.now c.args.other.now c.args.at.now e
