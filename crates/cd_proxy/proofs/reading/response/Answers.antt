use Rattle.std.proofs.Common.{IfOk, subst}
use Rattle.cd_proxy.specs.Intake.{ResponseInput}
use Rattle.cd_proxy.specs.Responses.{IsReading}
use Rattle.cd_proxy.proofs.reading.response.Goals as goal

pub returns : goal.returns
returns c =
    subst (λ (i : ResponseInput). IfOk c.next.result (IsReading i.bytes c.args.ended i.to_head)) c.in_ok-intake.ensures
    c.next.ensures.found
