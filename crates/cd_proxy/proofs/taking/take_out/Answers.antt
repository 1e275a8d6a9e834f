use Rattle.std.proofs.Common.{[], subst, sym}
use Rattle.cd_proxy.specs.declared.taking.Known.{Known}
use Rattle.cd_proxy.specs.Taking.{IsKept}
use Rattle.cd_proxy.proofs.taking.take_out.Goals as goal

pub returns-clause-known : goal.returns-clause-known
returns-clause-known c head =
    subst (λ (k : Known). IsKept head [] k) (sym c.replace.ensures.after) (c.no_search.ensures head)
