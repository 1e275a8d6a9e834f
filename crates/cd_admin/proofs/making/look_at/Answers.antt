use Rattle.cd_tree.proofs.Inside.{null_sound}
use Rattle.cd_admin.proofs.making.look_at.Goals as goal

pub show-requires-in-Ok-None : goal.show-requires-in-Ok-None
show-requires-in-Ok-None c = null_sound
