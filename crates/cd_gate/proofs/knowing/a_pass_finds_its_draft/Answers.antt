use Rattle.cd_gate.proofs.Staying.{kept}
use Rattle.cd_gate.proofs.knowing.a_pass_finds_its_draft.Goals as goal

pub returns : goal.returns
returns g c v log d f has = kept v log d f has
