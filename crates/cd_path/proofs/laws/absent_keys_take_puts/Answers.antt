use Rattle.cd_path.proofs.Puts.{absent_taken}
use Rattle.cd_path.proofs.laws.absent_keys_take_puts.Goals as goal

pub returns : goal.returns
returns c = absent_taken
