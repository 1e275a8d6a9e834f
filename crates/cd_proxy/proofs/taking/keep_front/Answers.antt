use Rattle.std.proofs.Common.{sym, ◌∙◌}
use Rattle.cd_proxy.proofs.TakingLemmas.{found_refused}
use Rattle.cd_proxy.proofs.taking.keep_front.Goals as goal

pub returns-in-Ok-None : goal.returns-in-Ok-None
returns-in-Ok-None c before text ended within f kept =
    found_refused c.args.head before text ended c.args.at c.args.response c.args.known.now f
    (sym c.in-Ok-None.ensures ∙ c.in-Ok-None.field-0-is) kept
