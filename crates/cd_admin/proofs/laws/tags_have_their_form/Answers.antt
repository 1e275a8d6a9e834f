use Rattle.std.proofs.Common.{sym}
use Rattle.cd_admin.proofs.Tags.{some_tag, tag_formed}
use Rattle.cd_admin.proofs.laws.tags_have_their_form.Goals as goal

pub returns-clause-found : goal.returns-clause-found
returns-clause-found c = λ value tag is. sym (some_tag value tag is)

pub returns-clause-formed : goal.returns-clause-formed
returns-clause-formed c = tag_formed
