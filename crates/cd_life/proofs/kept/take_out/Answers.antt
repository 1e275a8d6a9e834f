use Rattle.std.proofs.Common.{◌≡◌, ◌∙◌, ap, subst, Some}
use Rattle.std.proofs.lemmas.Option.{get_or_from_slice_get}
use Rattle.cd_life.specs.Changes.{tree_at, IsPlaceOf}
use Rattle.cd_life.proofs.Shelving.{tree_at_removed}
use Rattle.cd_life.proofs.kept.take_out.Goals as goal

pub returns-in-Some-clause-others : goal.returns-in-Some-clause-others
returns-in-Some-clause-others g c n other =
    let kept = c.args.kept.now.items in
    let place = c.in-Some.place in
    let p : IsPlaceOf kept c.args.serial (Some place) = subst (λ z. IsPlaceOf kept c.args.serial z) c.in-Some.is (subst (λ z. IsPlaceOf z c.args.serial c.place_of.result) c.as_slice.ensures.value c.place_of.ensures) in
    ap (λ z. tree_at z n) c.remove-loaded.ensures.items ∙ tree_at_removed kept place c.args.serial n p.0 p.1 p.2 other

pub returns-in-Some-clause-removed : goal.returns-in-Some-clause-removed
returns-in-Some-clause-removed g c =
    let kept = c.args.kept.now.items in
    let place = c.in-Some.place in
    let p : IsPlaceOf kept c.args.serial (Some place) = subst (λ z. IsPlaceOf kept c.args.serial z) c.in-Some.is (subst (λ z. IsPlaceOf z c.args.serial c.place_of.result) c.as_slice.ensures.value c.place_of.ensures) in
    let k = p.0 in
    let one : c.remove-loaded.result ≡ k = c.remove-loaded.ensures.value ∙ get_or_from_slice_get kept place k c.remove-loaded.result p.1 in
    (place, k, p.1, p.2, ap (λ z. z.loaded) one, c.remove-loaded.ensures.items)
