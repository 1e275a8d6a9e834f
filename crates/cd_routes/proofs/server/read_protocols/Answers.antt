use Rattle.std.proofs.Common.{rules}
use Rattle.cd_routes.specs.Server.{protocols}
use Rattle.cd_handlers.proofs.Readers.{step_failed}
use Rattle.cd_routes.proofs.server.read_protocols.Goals as goal

pub returns-in_err-optional-2 : goal.returns-in_err-optional-2
unfolding protocols
returns-in_err-optional-2 c = step_failed _ _ _ c.from_residual-in_err-optional-2.ensures.1 (λ ne. rw (c.in_ok-optional.ensures, c.in_err-optional-2.ensures ne))

pub returns-in_err-optional-3 : goal.returns-in_err-optional-3
unfolding protocols
returns-in_err-optional-3 c = step_failed _ _ _ c.from_residual-in_err-optional-3.ensures.1 (λ ne. rw (c.in_ok-optional.ensures, c.in_ok-optional-2.ensures, c.in_err-optional-3.ensures ne))

pub returns : goal.returns
unfolding protocols
returns c = rw (c.in_ok-optional.ensures, c.in_ok-optional-2.ensures, c.in_ok-optional-3.ensures) (search rules)
