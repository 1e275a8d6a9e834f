use Rattle.std.proofs.Common.{◌≡◌, drop}
use Rattle.cd_tree.specs.Fields.{get}
use Rattle.cd_tree.proofs.fields.member_named.Given as goal

abbrev pub invariant-loop-member : goal.invariant-loop-member
invariant-loop-member l = get l.name (drop l.member-index l.member-items) ≡ get l.name l.member-items
