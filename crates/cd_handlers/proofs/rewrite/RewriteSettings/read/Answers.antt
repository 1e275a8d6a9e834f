use Rattle.cd_handlers.specs.Rewrite.{rewrite}
use Rattle.cd_handlers.proofs.Readers.{step_failed}
use Rattle.cd_handlers.proofs.rewrite.RewriteSettings.read.Goals as goal

pub returns-in_err-fields : goal.returns-in_err-fields
unfolding rewrite
returns-in_err-fields c = step_failed _ _ _ c.from_residual.ensures.1 (λ ne. rw (c.in_err-fields.ensures ne))

pub returns-in_err-method : goal.returns-in_err-method
unfolding rewrite
returns-in_err-method c = step_failed _ _ _ c.from_residual-in_err-method.ensures.1 (λ ne. rw (c.in_ok-fields.ensures, c.in_err-method.ensures ne))

pub returns-in_err-uri : goal.returns-in_err-uri
unfolding rewrite
returns-in_err-uri c = step_failed _ _ _ c.from_residual-in_err-uri.ensures.1 (λ ne. rw (c.in_ok-fields.ensures, c.in_ok-method.ensures, c.in_err-uri.ensures ne))

pub returns-in_err-prefix : goal.returns-in_err-prefix
unfolding rewrite
returns-in_err-prefix c = step_failed _ _ _ c.from_residual-in_err-prefix.ensures.1 (λ ne. rw (c.in_ok-fields.ensures, c.in_ok-method.ensures, c.in_ok-uri.ensures, c.in_err-prefix.ensures ne))

pub returns-in_err-suffix : goal.returns-in_err-suffix
unfolding rewrite
returns-in_err-suffix c = step_failed _ _ _ c.from_residual-in_err-suffix.ensures.1 (λ ne. rw (c.in_ok-fields.ensures, c.in_ok-method.ensures, c.in_ok-uri.ensures, c.in_ok-prefix.ensures, c.in_err-suffix.ensures ne))

pub returns-in_err-substrings : goal.returns-in_err-substrings
unfolding rewrite
returns-in_err-substrings c = step_failed _ _ _ c.from_residual-in_err-substrings.ensures.1 (λ ne. rw (c.in_ok-fields.ensures, c.in_ok-method.ensures, c.in_ok-uri.ensures, c.in_ok-prefix.ensures, c.in_ok-suffix.ensures, c.in_err-substrings.ensures ne))

pub returns : goal.returns
unfolding rewrite
returns c = rw (c.in_ok-fields.ensures, c.in_ok-method.ensures, c.in_ok-uri.ensures, c.in_ok-prefix.ensures, c.in_ok-suffix.ensures, c.in_ok-substrings.ensures)
