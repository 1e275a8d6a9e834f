use Rattle.std.proofs.Common.{◌≡◌}
use Rattle.cd_fill.specs.Values.{header_values}
use Rattle.cd_match.proofs.header.has_field.Given as goal

abbrev pub invariant-loop-field : goal.invariant-loop-field
invariant-loop-field l = header_values l.name l.fn.fields ≡ header_values l.name l.field-iterator
