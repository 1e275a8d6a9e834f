use Rattle.cd_tree.proofs.Utf8Texts.{digits_utf8}
use Rattle.cd_tree.proofs.round_trip.see_number.Goals as goal

pub returns : goal.returns
returns c = digits_utf8 c.args.number.now c.see_size.ensures
