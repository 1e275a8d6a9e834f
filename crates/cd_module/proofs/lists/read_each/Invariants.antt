use Rattle.std.proofs.Common.{◌≡◌, drop}
use Rattle.cd_module.specs.Settings.{each, ahead}
use Rattle.cd_module.proofs.lists.read_each.Given as goal

abbrev pub invariant-loop-place : goal.invariant-loop-place
invariant-loop-place g l = ahead l.found (each g.T.Settings.reader l.place (drop l.place l.fn.items) l.at) ≡ each g.T.Settings.reader 0 l.fn.items l.at
