use Rattle.std.proofs.Common.{refl, rules}
use Rattle.cd_desk.proofs.Untouched.{one_more}
use Rattle.cd_desk.proofs.beginning.no_tickets.Goals as goal

pub loop-caller-preserved : goal.loop-caller-preserved
loop-caller-preserved c = one_more c.loop-caller.caller _ c.loop-caller.made.items _ refl c.loop-caller.invariant (search rules)
