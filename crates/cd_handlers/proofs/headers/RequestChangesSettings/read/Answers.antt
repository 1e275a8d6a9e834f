use Rattle.cd_handlers.specs.Headers.{request_changes}
use Rattle.cd_handlers.proofs.Readers.{step_failed}
use Rattle.cd_handlers.proofs.headers.RequestChangesSettings.read.Goals as goal

pub returns-in_err-fields : goal.returns-in_err-fields
unfolding request_changes
returns-in_err-fields c = step_failed _ _ _ c.from_residual.ensures.1 (λ ne. rw (c.in_err-fields.ensures ne))

pub returns-in_err-add : goal.returns-in_err-add
unfolding request_changes
returns-in_err-add c = step_failed _ _ _ c.from_residual-in_err-add.ensures.1 (λ ne. rw (c.in_ok-fields.ensures, c.in_err-add.ensures ne))

pub returns-in_err-set : goal.returns-in_err-set
unfolding request_changes
returns-in_err-set c = step_failed _ _ _ c.from_residual-in_err-set.ensures.1 (λ ne. rw (c.in_ok-fields.ensures, c.in_ok-add.ensures, c.in_err-set.ensures ne))

pub returns-in_err-delete : goal.returns-in_err-delete
unfolding request_changes
returns-in_err-delete c = step_failed _ _ _ c.from_residual-in_err-delete.ensures.1 (λ ne. rw (c.in_ok-fields.ensures, c.in_ok-add.ensures, c.in_ok-set.ensures, c.in_err-delete.ensures ne))

pub returns : goal.returns
unfolding request_changes
returns c = rw (c.in_ok-fields.ensures, c.in_ok-add.ensures, c.in_ok-set.ensures, c.in_ok-delete.ensures, c.request_fields_or_none.ensures, c.request_fields_or_none-2.ensures, c.unwrap_or.ensures, c.new.ensures)
