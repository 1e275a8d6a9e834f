use Rattle.std.proofs.Common.{◌≡◌, drop}
use Rattle.cd_module.specs.Settings.{each, each_member, is_setting, ahead}
use Rattle.cd_match.specs.Matchers.{sets, matcher_set, matcher}
use Rattle.cd_match.proofs.reading.+sets.Given as goal

abbrev pub invariant-read_matchers-loop-member : goal.invariant-read_matchers-loop-member
invariant-read_matchers-loop-member l = ahead l.matchers (each_member is_setting (matcher sets) (drop l.member-index l.members) l.at) ≡ each_member is_setting (matcher sets) l.members l.at

abbrev pub invariant-read_each_set-loop-place : goal.invariant-read_each_set-loop-place
invariant-read_each_set-loop-place l = ahead l.found (each (matcher_set sets) l.place (drop l.place l.fn.items) l.at) ≡ each (matcher_set sets) 0 l.fn.items l.at
