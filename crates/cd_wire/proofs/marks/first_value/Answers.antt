use Rattle.cd_wire.proofs.PlaceLemmas.{place_listed}
use Rattle.cd_wire.proofs.marks.first_value.Goals as goal

pub first_at-requires : goal.first_at-requires
first_at-requires c = place_listed _ c.args.places.now c.loop-place.place-index _ c.loop-place-test.true c.requires

pub second_at-requires : goal.second_at-requires
second_at-requires c = place_listed _ c.args.places.now c.loop-place.place-index _ c.loop-place-test.true c.requires
