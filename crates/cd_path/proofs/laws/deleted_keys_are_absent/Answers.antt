use Rattle.cd_path.proofs.Places.{delete_leaves_none, delete_leaves_null}
use Rattle.cd_path.proofs.laws.deleted_keys_are_absent.Goals as goal

pub returns-clause-key : goal.returns-clause-key
returns-clause-key c = delete_leaves_none

pub returns-clause-whole : goal.returns-clause-whole
returns-clause-whole c = delete_leaves_null
