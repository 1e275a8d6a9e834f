use Rattle.cd_tree.proofs.ReadBack.{one_text_one_tree}
use Rattle.cd_tree.proofs.round_trip.one_text_is_of_one_tree.Goals as goal

pub returns : goal.returns
returns c = one_text_one_tree c.args.one.now c.args.other.now c.requires.one c.requires.other
