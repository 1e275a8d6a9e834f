use Rattle.std.proofs.Common.{map, take}
use Rattle.httparse.specs.Spans.{header_bytes}
use Rattle.cd_wire.specs.Heads.{field_of}
use Rattle.cd_wire.specs.Places.{HasFields}
use Rattle.cd_wire.proofs.head.put_fields.Given as goal

-- the fields so far
abbrev pub invariant-loop-header : goal.invariant-loop-header
invariant-loop-header l =
    HasFields l.fn.out.items l.out.items l.places.items
    (map field_of (map (header_bytes l.bytes) (take l.header-index l.headers)))
