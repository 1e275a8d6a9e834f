use Rattle.std.proofs.Common.{◌≡◌, ◌∙◌, ap, sym, subst, rules, refl, Some, slice_get}
use Rattle.std.proofs.lemmas.Option.{slice_get_read, slice_get_within}
use Rattle.cd_legal.specs.State.{Conf}
use Rattle.cd_desk.proofs.Lists.{same_at}
use Rattle.cd_life.specs.Changes.{IsPlaceOf, conf_kept, tree_of}
use Rattle.cd_life.proofs.ending.one_of.Goals as goal

pub returns : goal.returns
returns g c =
    let kept = c.args.kept.items in
    let place = c.in-Some.place in
    let p : IsPlaceOf kept c.args.serial (Some place) = subst (λ z. IsPlaceOf kept c.args.serial z) c.in-Some.is (subst (λ z. IsPlaceOf z c.args.serial c.place_of.result) c.as_slice.ensures.value c.place_of.ensures) in
    let one = c.remove-loaded.result in
    let there : slice_get kept place ≡ Some one = slice_get_read kept _ place one refl (slice_get_within kept place p.0 p.1) (search rules) in
    ap (λ z. Conf.Of (tree_of z)) (same_at kept place one p.0 there p.1) ∙ sym (ap conf_kept p.3)
