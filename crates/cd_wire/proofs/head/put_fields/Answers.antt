use Rattle.cd_wire.proofs.PlaceLemmas.{has_fields-push, fields_of-push}
use Rattle.httparse.specs.declared.spans.HeaderSpan.{HeaderSpan}
use Rattle.cd_wire.proofs.head.put_fields.Goals as goal

-- one more field
pub loop-header-preserved : goal.loop-header-preserved
loop-header-preserved c =
    let other : HeaderSpan = record { name = record { start = 0; end = 0 }; value = record { start = 0; end = 0 } } in
    rw (c.in_ok-push.ensures.items, fields_of-push c.args.bytes.now c.args.headers.now c.loop-header.header-index other c.loop-header-test.true)
    (has_fields-push _ _ _ _ _ _ _ _ c.loop-header.invariant c.in_ok-put_field.ensures)
