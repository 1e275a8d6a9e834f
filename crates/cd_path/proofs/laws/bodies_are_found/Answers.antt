use Rattle.cd_path.proofs.Places.{put_leaves, patch_leaves}
use Rattle.cd_path.proofs.laws.bodies_are_found.Goals as goal

pub returns-clause-put : goal.returns-clause-put
returns-clause-put c = put_leaves

pub returns-clause-patched : goal.returns-clause-patched
returns-clause-patched c = patch_leaves
