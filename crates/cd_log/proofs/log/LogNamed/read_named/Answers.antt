use Rattle.std.proofs.lemmas.Result.{err_from_is_err_and}
use Rattle.cd_log.specs.Logging.{named_log}
use Rattle.cd_log.proofs.log.LogNamed.read_named.Goals as goal

pub returns-in_err-fields : goal.returns-in_err-fields
unfolding named_log
returns-in_err-fields c =
    let p = err_from_is_err_and c.from_residual.result c.from_residual.ensures.1 in
    rw (p.1, p.2) (λ ne. rw (c.in_err-fields.ensures ne))

pub returns : goal.returns
unfolding named_log
returns c = rw (c.in_ok-fields.ensures) c.read_members.ensures
