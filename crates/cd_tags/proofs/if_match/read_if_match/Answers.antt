use Rattle.cd_tags.proofs.Forms.{tag_given, never_malformed}
use Rattle.cd_tags.proofs.if_match.read_if_match.Goals as goal

pub returns-clause-tag : goal.returns-clause-tag
returns-clause-tag c = tag_given c.read_tag.result c.args.value.now c.read_tag.ensures

pub returns-clause-malformed : goal.returns-clause-malformed
returns-clause-malformed c = never_malformed c.read_tag.result c.args.value.now c.read_tag.ensures
