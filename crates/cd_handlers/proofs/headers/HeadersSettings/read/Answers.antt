use Rattle.cd_handlers.specs.Headers.{headers}
use Rattle.cd_handlers.proofs.Readers.{step_failed}
use Rattle.cd_handlers.proofs.headers.HeadersSettings.read.Goals as goal

pub returns-in_err-fields : goal.returns-in_err-fields
unfolding headers
returns-in_err-fields c = step_failed _ _ _ c.from_residual.ensures.1 (λ ne. rw (c.in_err-fields.ensures ne))

pub returns-in_err-request : goal.returns-in_err-request
unfolding headers
returns-in_err-request c = step_failed _ _ _ c.from_residual-in_err-request.ensures.1 (λ ne. rw (c.in_ok-fields.ensures, c.in_err-request.ensures ne))

pub returns-in_err-response : goal.returns-in_err-response
unfolding headers
returns-in_err-response c = step_failed _ _ _ c.from_residual-in_err-response.ensures.1 (λ ne. rw (c.in_ok-fields.ensures, c.in_ok-request.ensures, c.in_err-response.ensures ne))

pub returns : goal.returns
unfolding headers
returns c = rw (c.in_ok-fields.ensures, c.in_ok-request.ensures, c.in_ok-response.ensures, c.request_or_none.ensures, c.response_or_none.ensures)
