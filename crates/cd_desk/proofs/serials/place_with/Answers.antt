use Rattle.std.proofs.Common.{◌≡◌, ◌∙◌, slice_get, Some, rules, refl}
use Rattle.std.proofs.lemmas.Option.{slice_get_read}
use Rattle.cd_desk.proofs.Placing.{row_of-here}
use Rattle.cd_desk.proofs.serials.place_with.Goals as goal

pub returns-then-has_serial : goal.returns-then-has_serial
returns-then-has_serial c =
    let rows = c.args.rows.now in
    let r = c.index-rows-place.result in
    let there : slice_get rows c.loop-place.place ≡ Some r = slice_get_read rows _ c.loop-place.place r refl (search rules) (search rules) in
    (r, there, c.loop-place.invariant ∙ row_of-here c.args.serial rows c.loop-place.place r there (search rules))
