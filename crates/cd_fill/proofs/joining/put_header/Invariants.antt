use Rattle.std.proofs.Common.{◌≡◌, ◌++◌, true}
use Rattle.cd_fill.specs.Values.{header_values}
use Rattle.cd_fill.proofs.Commas.{rest_joined}
use Rattle.cd_fill.proofs.joining.put_header.Given as goal

abbrev pub invariant-loop-field : goal.invariant-loop-field
invariant-loop-field l =
    l.initial.out ++ rest_joined true (header_values l.name l.fn.fields)
    ≡ l.out ++ rest_joined l.is_first (header_values l.name l.field-iterator)
