use Rattle.std.proofs.Common.{◌≡◌, drop}
use Rattle.cd_module.specs.Settings.{ahead, each_member, is_setting}
use Rattle.cd_routes.specs.Reading.{named_route}
use Rattle.cd_routes.proofs.named.read_each_named.Given as goal

abbrev pub invariant-loop-member : goal.invariant-loop-member
invariant-loop-member l =
    ahead l.found (each_member is_setting (named_route l.known) (drop l.member-index l.member-items) l.at) ≡ each_member is_setting (named_route l.known) l.member-items l.at
