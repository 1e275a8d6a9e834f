use Rattle.std.proofs.Common.{◌≡◌, ◌∙◌, slice_get, Some, rules, refl}
use Rattle.std.proofs.lemmas.Option.{slice_get_read}
use Rattle.cd_desk.proofs.Numbers.{with_here}
use Rattle.cd_desk.proofs.rows.find.Goals as goal

pub returns-then-has_number : goal.returns-then-has_number
returns-then-has_number c =
    let rows = c.args.rows.now in
    let r = c.index-rows-place.result in
    let there : slice_get rows c.loop-place.place ≡ Some r = slice_get_read rows _ c.loop-place.place r refl (search rules) (search rules) in
    (r, there, c.loop-place.invariant ∙ with_here c.args.draft rows c.loop-place.place r there (search rules))
