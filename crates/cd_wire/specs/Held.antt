-- Part of the main theorem.
-- For the model of `RequestFields`: the fields that a request is held to have.
use Rattle.std.specs.Prelude.{List}
use Rattle.cd_wire.specs.declared.fields.Field.{Field}
use Rattle.cd_wire.specs.declared.held.Held.{Held}
use Rattle.cd_wire.specs.declared.held.Held.TheVariants.{Seen, Own}

-- the fields, whoever they belong to
abbrev pub held_fields : Held → List Field
held_fields (Seen fields) = fields
held_fields (Own fields) = fields
