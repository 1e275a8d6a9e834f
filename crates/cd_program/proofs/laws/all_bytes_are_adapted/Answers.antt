use Rattle.cd_program.proofs.Adapted.{all_adapted}
use Rattle.cd_program.proofs.laws.all_bytes_are_adapted.Goals as goal

pub returns : goal.returns
returns c = λ bytes left found comes. all_adapted bytes left found comes
