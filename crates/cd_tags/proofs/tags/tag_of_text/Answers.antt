use Rattle.std.proofs.Common.{ap, ◌∙◌}
use Rattle.hex.specs.Hex.{encode_lower}
use Rattle.sha2.specs.Sha256.{sha256}
use Rattle.cd_tags.specs.Encoding.{tag_text}
use Rattle.cd_tags.specs.Tags.{digest}
use Rattle.cd_tags.proofs.tags.tag_of_text.Goals as goal

pub returns : goal.returns
unfolding digest
returns c = λ value is.
    c.in_ok-made.ensures ∙ ap (tag_text c.args.path.now) (c.as_str-2.ensures ∙ c.in_ok-hex.ensures ∙ ap (λ z. encode_lower (sha256 z)) (c.as_str.ensures ∙ is))
