use Rattle.cd_path.proofs.Found.{found_sound}
use Rattle.cd_path.proofs.looking.look.Goals as goal

pub returns-clause-sound : goal.returns-clause-sound
returns-clause-sound c h = found_sound c.find.result c.args.tree.now c.args.path.now c.find.ensures h
