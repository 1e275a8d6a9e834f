use Rattle.std.proofs.Common.{◌≡◌, length}
use Rattle.std.specs.List.{list_any, slice_split}
use Rattle.cd_wire.specs.Framing.{is_comma, is_close}
use Rattle.cd_wire.proofs.asking.any_close.Given as goal

-- what is left decides
abbrev pub invariant-loop-member : goal.invariant-loop-member
invariant-loop-member l = list_any is_close (slice_split is_comma l.list) ≡ list_any is_close (slice_split is_comma l.fn.list)

abbrev pub decreases-loop-member : goal.decreases-loop-member
decreases-loop-member l = length l.list
