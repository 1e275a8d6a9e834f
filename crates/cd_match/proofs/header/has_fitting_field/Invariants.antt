use Rattle.std.proofs.Common.{◌≡◌}
use Rattle.cd_fill.specs.Values.{header_values}
use Rattle.cd_match.specs.Header.{some_fits}
use Rattle.cd_match.proofs.header.has_fitting_field.Given as goal

abbrev pub invariant-loop-field : goal.invariant-loop-field
invariant-loop-field l = some_fits l.patterns (header_values l.name l.fn.fields) ≡ some_fits l.patterns (header_values l.name l.field-iterator)
