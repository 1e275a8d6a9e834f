-- For the clauses of private functions: the fields that most answers have.
use Rattle.std.specs.Prelude.{ℕ, List, codes}
use Rattle.cd_wire.specs.declared.fields.Field.{Field}

-- the field that names the server
abbrev pub server : Field
server = record { name = codes "server"; value = codes "Caddy" }

-- the type of a plain text
abbrev pub plain_type : Field
plain_type = record { name = codes "content-type"; value = codes "text/plain; charset=utf-8" }
