use Rattle.cd_handlers.specs.Changes.{changed_by}
use Rattle.cd_handlers.proofs.changes.changed_by.Goals as goal

pub returns : goal.returns
unfolding changed_by
returns c = rw (c.remaining.ensures, c.in_ok-fields-2.ensures, c.in_ok-fields.ensures, c.cleared-fields.ensures)
