use Rattle.std.proofs.Common.{◌≡◌, drop}
use Rattle.cd_module.specs.Settings.{ahead, each_member, is_no_id}
use Rattle.cd_module.proofs.named.read_each_with_nulls.Given as goal

abbrev pub invariant-loop-member : goal.invariant-loop-member
invariant-loop-member g l =
    ahead l.found (each_member is_no_id g.T.Named.named (drop l.member-index l.member-items) l.at) ≡ each_member is_no_id g.T.Named.named l.member-items l.at
