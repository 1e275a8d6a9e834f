use Rattle.std.proofs.Common.{◌∙◌, List, ℕ, subst}
use Rattle.cd_tags.specs.IfMatch.{IsTagOf}
use Rattle.cd_program.proofs.Storms.{same_digits}
use Rattle.cd_program.proofs.storm.digits_of.Goals as goal

pub returns-in-Ok-read_if_match : goal.returns-in-Ok-read_if_match
returns-in-Ok-read_if_match c =
    let read = c.in-Ok-read_if_match.read in
    let is = subst (λ (value : List ℕ). IsTagOf value read) (c.as_bytes.ensures.value ∙ c.as_str.ensures) c.in-Ok-read_if_match.ensures.tag in
    same_digits c.args.tree.now c.root-root.result c.in-Ok.tag read c.root-root.ensures c.in-Ok.ensures is
    (λ other. c.made_tags_hold.ensures c.args.tree.now c.in-Ok.tag read other c.in-Ok.ensures is)
