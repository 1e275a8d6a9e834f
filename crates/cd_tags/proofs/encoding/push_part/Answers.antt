use Rattle.std.proofs.Common.{◌++◌, string_bytes, ap, ◌∙◌}
use Rattle.cd_tags.proofs.Escapes.{encoded_is}
use Rattle.cd_tags.proofs.encoding.push_part.Goals as goal

pub returns : goal.returns
returns c =
    let text = c.utf8_percent_encode.ensures.text ∙ encoded_is c.escaped.result c.escaped.ensures c.args.part.now in
    c.in_ok-append_to.ensures.ok ∙ ap (λ s. string_bytes c.args.out.now ++ s) text
