use Rattle.std.proofs.Common.{◌≡◌, ◌∙◌, slice_get, Some, rules, refl}
use Rattle.std.proofs.lemmas.Option.{slice_get_read}
use Rattle.cd_life.proofs.Shelving.{tree_at_here}
use Rattle.cd_life.proofs.kept.place_of.Goals as goal

pub returns-then-one-serial : goal.returns-then-one-serial
returns-then-one-serial g c =
    let kept = c.args.kept.now in
    let k = c.index-kept-place.result in
    let serial : k.serial ≡ c.args.serial = search rules in
    let there : slice_get kept c.loop-place.place ≡ Some k = slice_get_read kept _ c.loop-place.place k refl (search rules) (search rules) in
    (k, there, serial, c.loop-place.invariant ∙ tree_at_here kept c.loop-place.place c.args.serial k there serial)
