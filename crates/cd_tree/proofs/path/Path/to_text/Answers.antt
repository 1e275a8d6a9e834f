use Rattle.std.proofs.Common.{◌≡◌, get_or, ◌∷◌, ◌++◌, sym, ap, ◌∙◌}
use Rattle.cd_tree.proofs.Joined.{one_more, behind_slash}
use Rattle.cd_tree.proofs.path.Path.to_text.Goals as goal

pub loop-place-preserved : goal.loop-place-preserved
loop-place-preserved c =
    let l = c.loop-place in
    let parts = c.as_slice-parts.result.now in
    let part = c.as_str.result.now in
    let is : part ≡ get_or parts l.place part = c.as_str.ensures ∙ c.index-parts-place.is ∙ ap (get_or parts l.place) (sym c.as_str.ensures) in
    c.in_ok-add_part.ensures ∙ ap (λ s. s ++ behind_slash l.place part) l.invariant ∙ ap (λ s. 47 ∷ s) (sym (one_more parts l.place part c.loop-place-test.true is))
