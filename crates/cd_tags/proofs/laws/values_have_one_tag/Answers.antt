use Rattle.cd_tags.proofs.Forms.{one_tag}
use Rattle.cd_tags.proofs.laws.values_have_one_tag.Goals as goal

pub returns : goal.returns
returns c = one_tag
