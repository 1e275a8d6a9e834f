use Rattle.std.proofs.Common.{drop, subst, sym, refl}
use Rattle.cd_wire.specs.declared.request.Request.{Request}
use Rattle.cd_wire.specs.Requests.{BeginsRequest}
use Rattle.cd_wire.proofs.taking.take_whole.Goals as goal

pub returns-in-Ok : goal.returns-in-Ok
returns-in-Ok c input ended within begins kept =
    let rest = drop c.args.len input in
    (within, subst (λ (r : Request). BeginsRequest input r rest) (sym c.in-Ok.ensures) begins, (refl, c.no_search.ensures rest))
