use Rattle.std.proofs.Common.{arith}
use Rattle.std.proofs.lemmas.Grind.{common_steps}
use Rattle.std.proofs.lemmas.List.{set_split}
use Rattle.cd_path.proofs.elements.with_replaced.Goals as goal

pub returns : goal.returns
returns c = rw (set_split c.args.items.now c.args.at c.args.new c.requires) (grind (arith, common_steps))
