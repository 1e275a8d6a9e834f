use Rattle.std.proofs.Common.{◌≡◌, IfOk, subst}
use Rattle.cd_routes.specs.Invoking.{Names}
use Rattle.cd_routes.specs.NameList.{leads_by}
use Rattle.cd_routes.proofs.leading.leads_of.Goals as goal

pub returns : goal.returns
returns c = subst (λ (ns : Names). IfOk c.leads_by.result (λ made. made ≡ leads_by ns c.args.named.now)) c.in_ok-names.ensures c.leads_by.ensures
