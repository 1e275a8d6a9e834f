use Rattle.std.proofs.Common.{◌≡◌, drop}
use Rattle.cd_tree.specs.Fields.{unknown}
use Rattle.cd_tree.proofs.fields.unknown_member.Given as goal

abbrev pub invariant-loop-other : goal.invariant-loop-other
invariant-loop-other l = unknown l.names (drop l.other-index l.other-items) ≡ unknown l.names l.other-items
