use Rattle.cd_tree.proofs.Inside.{null_sound}
use Rattle.cd_program.proofs.config.load_initial.Goals as goal

pub load_tree-requires-after_bounds : goal.load_tree-requires-after_bounds
load_tree-requires-after_bounds g c κs within = null_sound
