use Rattle.std.proofs.Common.{◌≡◌, ◌++◌, drop}
use Rattle.std.specs.Prelude.{map}
use Rattle.cd_wire.specs.Fields.{values}
use Rattle.cd_admin.proofs.fields.values_of.Given as goal

abbrev pub invariant-loop-field : goal.invariant-loop-field
invariant-loop-field l = map (λ value. value.now) l.found.items ++ values l.name (drop l.field-index l.fields) ≡ values l.name l.fields
