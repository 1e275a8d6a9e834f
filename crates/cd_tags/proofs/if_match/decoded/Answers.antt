use Rattle.std.proofs.Common.{◌≡◌, true, ◌++◌, Ok, sym, ap, ap₂, ◌∙◌}
use Rattle.percent_encoding.specs.Percent.{percent_decode}
use Rattle.cd_text.specs.Escapes.{escapes_are_whole}
use Rattle.cd_tags.proofs.Decoding.{is_text, is_no_text}
use Rattle.cd_tags.proofs.if_match.decoded.Goals as goal

pub returns-in-Ok : goal.returns-in-Ok
returns-in-Ok c =
    let part = c.args.part.now in
    let whole : escapes_are_whole part ≡ true = cc (c.if-not-escapes_are_whole.ensures, c.as_bytes.ensures.value) in
    let bytes = c.percent_decode.ensures.bytes ∙ ap percent_decode c.as_bytes-2.ensures.value in
    let is = c.as_slice.ensures.value ∙ c.in_ok-append_to.ensures.ok ∙ ap₂ (λ old more. old ++ more) c.new-bytes.ensures.items bytes in
    is_text part c.as_slice.result.now whole is c.in-Ok.ensures.cases.1 ∙ ap Ok (sym (c.in_ok-from_str-in-Ok.ensures ∙ c.in-Ok.ensures.cases.0))

pub returns : goal.returns
returns c =
    let part = c.args.part.now in
    let whole : escapes_are_whole part ≡ true = cc (c.if-not-escapes_are_whole.ensures, c.as_bytes.ensures.value) in
    let bytes = c.percent_decode.ensures.bytes ∙ ap percent_decode c.as_bytes-2.ensures.value in
    let is = c.as_slice.ensures.value ∙ c.in_ok-append_to.ensures.ok ∙ ap₂ (λ old more. old ++ more) c.new-bytes.ensures.items bytes in
    λ _. is_no_text part c.as_slice.result.now whole is c.in-Err.ensures.cases.0
