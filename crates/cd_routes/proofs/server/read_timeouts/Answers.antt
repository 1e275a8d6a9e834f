use Rattle.std.proofs.Common.{rules}
use Rattle.cd_routes.specs.Server.{timeouts}
use Rattle.cd_handlers.proofs.Readers.{step_failed}
use Rattle.cd_routes.proofs.server.read_timeouts.Goals as goal

pub returns-in_err-optional-2 : goal.returns-in_err-optional-2
unfolding timeouts
returns-in_err-optional-2 c = step_failed _ _ _ c.from_residual-in_err-optional-2.ensures.1 (λ ne. rw (c.in_ok-optional.ensures, c.in_err-optional-2.ensures ne))

pub returns-in_err-optional-3 : goal.returns-in_err-optional-3
unfolding timeouts
returns-in_err-optional-3 c = step_failed _ _ _ c.from_residual-in_err-optional-3.ensures.1 (λ ne. rw (c.in_ok-optional.ensures, c.in_ok-optional-2.ensures, c.in_err-optional-3.ensures ne))

pub returns-in_err-optional-4 : goal.returns-in_err-optional-4
unfolding timeouts
returns-in_err-optional-4 c = step_failed _ _ _ c.from_residual-in_err-optional-4.ensures.1 (λ ne. rw (c.in_ok-optional.ensures, c.in_ok-optional-2.ensures, c.in_ok-optional-3.ensures, c.in_err-optional-4.ensures ne))

pub returns-in_err-optional-5 : goal.returns-in_err-optional-5
unfolding timeouts
returns-in_err-optional-5 c = step_failed _ _ _ c.from_residual-in_err-optional-5.ensures.1 (λ ne. rw (c.in_ok-optional.ensures, c.in_ok-optional-2.ensures, c.in_ok-optional-3.ensures, c.in_ok-optional-4.ensures, c.in_err-optional-5.ensures ne))

pub returns-in_err-optional-6 : goal.returns-in_err-optional-6
unfolding timeouts
returns-in_err-optional-6 c = step_failed _ _ _ c.from_residual-in_err-optional-6.ensures.1 (λ ne. rw (c.in_ok-optional.ensures, c.in_ok-optional-2.ensures, c.in_ok-optional-3.ensures, c.in_ok-optional-4.ensures, c.in_ok-optional-5.ensures, c.in_err-optional-6.ensures ne))

pub returns : goal.returns
unfolding timeouts
returns c = rw (c.in_ok-optional.ensures, c.in_ok-optional-2.ensures, c.in_ok-optional-3.ensures, c.in_ok-optional-4.ensures, c.in_ok-optional-5.ensures, c.in_ok-optional-6.ensures) (search rules)
