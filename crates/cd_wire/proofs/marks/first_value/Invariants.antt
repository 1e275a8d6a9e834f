use Rattle.std.proofs.Common.{◌≡◌, drop}
use Rattle.cd_wire.specs.Fields.{values}
use Rattle.cd_wire.specs.Framing.{first_or_empty}
use Rattle.cd_wire.specs.Places.{fields_at}
use Rattle.cd_wire.proofs.marks.first_value.Given as goal

-- no field so far has the name
abbrev pub invariant-loop-place : goal.invariant-loop-place
invariant-loop-place l =
    first_or_empty (values l.name (fields_at l.bytes l.places))
    ≡ first_or_empty (values l.name (fields_at l.bytes (drop l.place-index l.places)))
