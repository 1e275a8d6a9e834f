use Rattle.std.proofs.Common.{◌≡◌, ◌++◌}
use Rattle.cd_wire.proofs.seen.Fields.list.Given as goal

-- the fields so far, and those that are left
abbrev pub invariant-loop-field : goal.invariant-loop-field
invariant-loop-field l = l.made.items ++ l.field-iterator ≡ l.fn.self
