use Rattle.std.proofs.Common.{◌≡◌, ◌++◌, take, map}
use Rattle.std.specs.List.{flat_map}
use Rattle.cd_wire.specs.Lines.{line_field}
use Rattle.cd_wire.specs.Render.{field_line}
use Rattle.cd_wire.proofs.lines.put_in_order.Given as goal

-- the lines so far are written
abbrev pub invariant-loop-line : goal.invariant-loop-line
invariant-loop-line l =
    l.out.items ≡ l.initial.out.items ++ flat_map field_line (map line_field (take l.line-index l.lines))
