use Rattle.std.proofs.Common.{◌≡◌, take, filter, codes}
use Rattle.cd_wire.specs.Fields.{is_named}
use Rattle.cd_proxy.proofs.hops.connection_fields.Given as goal

-- of the fields so far
abbrev pub invariant-loop-field : goal.invariant-loop-field
invariant-loop-field l = l.found.items ≡ filter (is_named (codes "connection")) (take l.field-index l.fields)
