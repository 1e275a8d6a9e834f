use Rattle.std.proofs.Common.{ap, ◌∙◌}
use Rattle.hex.specs.Hex.{encode_lower}
use Rattle.sha2.specs.Sha256.{sha256}
use Rattle.cd_tags.specs.Tags.{digest}
use Rattle.cd_tags.proofs.tags.digest.Goals as goal

pub returns : goal.returns
unfolding digest
returns c = c.in_ok-hex.ensures ∙ ap (λ z. encode_lower (sha256 z)) (c.as_str.ensures ∙ c.in_ok-text.ensures.text)
