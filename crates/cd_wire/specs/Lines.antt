-- For the clauses of private functions: the fields whose lines are to be written.
use Rattle.cd_wire.specs.declared.fields.Field.{Field}
use Rattle.cd_wire.specs.declared.lines.Line.{Line}

-- the field of the line
abbrev pub line_field : Line → Field
line_field line = record { name = line.name.now; value = line.value.now }
