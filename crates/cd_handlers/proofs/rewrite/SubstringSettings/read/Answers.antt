use Rattle.cd_handlers.specs.Rewrite.{substring}
use Rattle.cd_handlers.proofs.Readers.{step_failed}
use Rattle.cd_handlers.proofs.rewrite.SubstringSettings.read.Goals as goal

pub returns-in_err-fields : goal.returns-in_err-fields
unfolding substring
returns-in_err-fields c = step_failed _ _ _ c.from_residual.ensures.1 (λ ne. rw (c.in_err-fields.ensures ne))

pub returns-in_err-find : goal.returns-in_err-find
unfolding substring
returns-in_err-find c = step_failed _ _ _ c.from_residual-in_err-find.ensures.1 (λ ne. rw (c.in_ok-fields.ensures, c.in_err-find.ensures ne))

pub returns-in_err-replace : goal.returns-in_err-replace
unfolding substring
returns-in_err-replace c = step_failed _ _ _ c.from_residual-in_err-replace.ensures.1 (λ ne. rw (c.in_ok-fields.ensures, c.in_ok-find.ensures, c.in_err-replace.ensures ne))

pub returns-in_err-limit : goal.returns-in_err-limit
unfolding substring
returns-in_err-limit c = step_failed _ _ _ c.from_residual-in_err-limit.ensures.1 (λ ne. rw (c.in_ok-fields.ensures, c.in_ok-find.ensures, c.in_ok-replace.ensures, c.in_err-limit.ensures ne))

pub returns : goal.returns
unfolding substring
returns c = rw (c.in_ok-fields.ensures, c.in_ok-find.ensures, c.in_ok-replace.ensures, c.in_ok-limit.ensures, c.unwrap_or.ensures, c.no_text.ensures, c.most_of.ensures)
