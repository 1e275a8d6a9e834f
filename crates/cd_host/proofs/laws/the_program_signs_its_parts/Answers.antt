use Rattle.cd_host.proofs.Parted.{program-signs}
use Rattle.cd_host.proofs.laws.the_program_signs_its_parts.Goals as goal

pub returns : goal.returns
returns c = program-signs
