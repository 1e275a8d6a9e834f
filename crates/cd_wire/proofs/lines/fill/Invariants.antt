use Rattle.std.proofs.Common.{◌≡◌, take, map}
use Rattle.cd_wire.specs.Lines.{line_field}
use Rattle.cd_wire.proofs.lines.fill.Given as goal

abbrev pub invariant-loop-field : goal.invariant-loop-field
invariant-loop-field l =
    (l.count ≡ l.field-index) × (map line_field (take l.count l.lines) ≡ take l.field-index l.fields)
