use Rattle.cd_tree.proofs.Inside.{null_sound}
use Rattle.cd_tags.proofs.tags.digest_at.Goals as goal

pub digest-requires-in-Ok-None : goal.digest-requires-in-Ok-None
digest-requires-in-Ok-None c = null_sound
