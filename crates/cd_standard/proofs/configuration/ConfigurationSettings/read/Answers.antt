use Rattle.cd_standard.specs.Configuration.{configuration}
use Rattle.cd_handlers.proofs.Readers.{step_failed}
use Rattle.cd_standard.proofs.configuration.ConfigurationSettings.read.Goals as goal

pub returns-in_err-logs : goal.returns-in_err-logs
unfolding configuration
returns-in_err-logs c = step_failed _ _ _ c.from_residual-in_err-logs.ensures.1 (λ ne. rw (c.in_ok-fields.ensures, c.in_ok-admin.ensures, c.in_ok-apps.ensures, c.in_err-logs.ensures ne))

pub returns : goal.returns
unfolding configuration
returns c = rw (c.in_ok-fields.ensures, c.in_ok-admin.ensures, c.in_ok-apps.ensures, c.in_ok-logs.ensures, c.in_ok-or_usual.ensures, c.apps_or_none.ensures, c.or_none.ensures)
