use Rattle.std.proofs.Common.{sym, ◌∙◌}
use Rattle.cd_pool.proofs.Gaps.{key_there}
use Rattle.cd_pool.proofs.slots.is_key_of.Goals as goal

pub returns-in-Some : goal.returns-in-Some
returns-in-Some c = λ hit. key_there c.args.key.now c.args.slots.now _ (sym c.is_key_at.ensures ∙ hit)
