use Rattle.cd_legal.proofs.Serials.{serial-rises}
use Rattle.cd_legal.proofs.laws.the_serial_never_falls.Goals as goal

pub returns : goal.returns
returns c = serial-rises
