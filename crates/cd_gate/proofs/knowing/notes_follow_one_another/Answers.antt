use Rattle.cd_gate.proofs.Cored.{core-notes}
use Rattle.cd_gate.proofs.knowing.notes_follow_one_another.Goals as goal

pub returns : goal.returns
returns g c v w entries all notes = core-notes v w entries all notes
