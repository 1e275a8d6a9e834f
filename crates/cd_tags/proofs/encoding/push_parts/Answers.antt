use Rattle.std.proofs.Common.{◌≡◌, [], ◌++◌, drop, string_bytes, sym, ap, ap₂, ◌∙◌, arith, append-nil}
use Rattle.std.proofs.lemmas.List.{drop_all}
use Rattle.cd_tags.specs.Encoding.{encoded}
use Rattle.cd_tags.proofs.Parts.{path_text, one_written, all_joined}
use Rattle.cd_tags.proofs.encoding.push_parts.Goals as goal

pub loop-part-init : goal.loop-part-init
loop-part-init c = ap (λ rest. string_bytes c.args.out.now ++ rest) (all_joined c.args.parts.now)

pub loop-part-preserved : goal.loop-part-preserved
loop-part-preserved c =
    let l = c.loop-part in
    let written = c.in_ok-push_part.ensures ∙ ap₂ (λ a b. a ++ encoded b) c.in_ok-push_slash_if.ensures c.as_str.ensures in
    one_written (string_bytes l.out) _ l.later c.args.parts.now l.part-index c.part-item.result (omega arith) c.part-item.is written ∙ l.invariant

pub returns : goal.returns
returns c =
    let l = c.loop-part in
    let none : drop l.part-index c.args.parts.now ≡ [] = drop_all l.part-index c.args.parts.now (omega arith) in
    sym (append-nil (string_bytes l.out)) ∙ ap (λ ps. string_bytes l.out ++ path_text l.later ps) (sym none) ∙ l.invariant
