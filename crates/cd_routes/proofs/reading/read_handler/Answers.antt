use Rattle.cd_handlers.proofs.Readers.{step_failed}
use Rattle.cd_routes.specs.Reading.{tested_handler}
use Rattle.cd_routes.proofs.reading.read_handler.Goals as goal

pub returns-in_err-test_name : goal.returns-in_err-test_name
unfolding tested_handler
returns-in_err-test_name c = step_failed _ _ _ c.from_residual-in_err-test_name.ensures.1 (λ ne. rw (c.in_ok-handler.ensures, c.in_err-test_name.ensures ne))
