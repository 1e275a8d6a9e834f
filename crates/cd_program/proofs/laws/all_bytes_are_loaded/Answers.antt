use Rattle.cd_program.proofs.Loading.{all_loaded}
use Rattle.cd_program.proofs.laws.all_bytes_are_loaded.Goals as goal

pub returns : goal.returns
returns c = λ plan bytes left found loads. all_loaded plan bytes left found loads
