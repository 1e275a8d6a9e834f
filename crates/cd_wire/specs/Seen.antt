-- For the model of `Fields`: the fields that are looked at.
use Rattle.std.specs.Prelude.{⊤, List, length}
use Rattle.cd_wire.specs.declared.fields.Field.{Field}
use Rattle.cd_wire.specs.declared.seen.Seen.{Seen}
use Rattle.cd_wire.specs.declared.seen.Seen.TheVariants.{Placed, Listed}
use Rattle.cd_wire.specs.Places.{ArePlacesIn, fields_at}

-- the fields, wherever they lie
abbrev pub seen_fields : Seen → List Field
seen_fields (Placed bytes places) = fields_at bytes.now places.now
seen_fields (Listed fields) = fields.now

-- where they lie in bytes, they lie within them
abbrev pub AreSeen : Seen → Type 0
AreSeen (Placed bytes places) = ArePlacesIn (length bytes.now) places.now
AreSeen (Listed fields) = ⊤
