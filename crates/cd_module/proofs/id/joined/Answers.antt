use Rattle.std.proofs.Common.{◌≡◌, ◌∷◌, ◌+◌, get_or, drop, string_bytes, sym, ap, ◌∙◌}
use Rattle.std.specs.List.{join_with_byte}
use Rattle.cd_tree.proofs.Trees.{drop-element}
use Rattle.cd_module.proofs.Ids.{join_step}
use Rattle.cd_module.proofs.id.joined.Goals as goal

pub loop-label-preserved : goal.loop-label-preserved
loop-label-preserved c =
    let l = c.loop-label in
    let labels = c.args.others.now in
    let label = c.as_str-in-loop-label.result.now in
    let left = drop (l.label-index + 1) labels in
    let is : label ≡ get_or labels l.label-index label = c.as_str-in-loop-label.ensures ∙ c.label-item.is ∙ ap (get_or labels l.label-index) (sym c.as_str-in-loop-label.ensures) in
    ap (λ text. join_with_byte 46 (text ∷ left)) c.in_ok-add_label.ensures
    ∙ (sym (join_step (string_bytes l.text) label left)
    ∙ (ap (λ rest. join_with_byte 46 (string_bytes l.text ∷ rest)) (sym (drop-element labels l.label-index label c.loop-label-test.true is)) ∙ l.invariant))
