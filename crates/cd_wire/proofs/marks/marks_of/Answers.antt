use Rattle.std.proofs.Common.{codes, ap, ◌∙◌, ◌||◌}
use Rattle.cd_wire.specs.declared.place.Place.{Place}
use Rattle.cd_wire.specs.Framing.{is_closing}
use Rattle.cd_wire.proofs.PlaceLemmas.{place_listed, values_at-push, closing_at-push}
use Rattle.cd_wire.proofs.marks.marks_of.Goals as goal

pub first_at-requires : goal.first_at-requires
first_at-requires c = place_listed _ c.args.places.now c.loop-place.place-index _ c.loop-place-test.true c.requires

pub second_at-requires : goal.second_at-requires
second_at-requires c = place_listed _ c.args.places.now c.loop-place.place-index _ c.loop-place-test.true c.requires

pub loop-place-preserved : goal.loop-place-preserved
loop-place-preserved c =
    let bytes = c.args.bytes.now in
    let places = c.args.places.now in
    let other : Place = record { start = 0; middle = 0; end = 0 } in
    let i = c.loop-place.place-index in
    let within = c.loop-place-test.true in
    let name = c.first_at.ensures in
    let value = c.second_at.ensures in
    let marked = c.marked-marks.ensures in
    record {
      host = rw (values_at-push (codes "host") bytes places i other within, ← name, ← value) (marked.host _ c.loop-place.invariant.host);
      coding = rw (values_at-push (codes "transfer-encoding") bytes places i other within, ← name, ← value) (marked.coding _ c.loop-place.invariant.coding);
      length = rw (values_at-push (codes "content-length") bytes places i other within, ← name, ← value) (marked.length _ c.loop-place.invariant.length);
      closing = rw (closing_at-push bytes places i other within, ← name, ← value) (marked.closing ∙ ap (λ b. b || is_closing (record { name = c.first_at.result.now; value = c.second_at.result.now })) c.loop-place.invariant.closing);
    }
