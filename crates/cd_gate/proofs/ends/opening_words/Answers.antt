use Rattle.cd_gate.proofs.SeatSteps.{words_written}
use Rattle.cd_gate.proofs.ends.opening_words.Goals as goal

pub returns : goal.returns
returns g = words_written
