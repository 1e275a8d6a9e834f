use Rattle.cd_fixed.proofs.Truths.{truth_sound}
use Rattle.cd_fixed.proofs.fixed.load_fixed.Goals as goal

pub load-requires : goal.load-requires
load-requires g c = truth_sound c.args.other
