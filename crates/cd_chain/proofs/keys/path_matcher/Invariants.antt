use Rattle.std.proofs.Common.{◌≡◌, true, drop}
use Rattle.std.specs.List.{list_all}
use Rattle.cd_fill.specs.declared.scene.Scene.{Scene}
use Rattle.cd_match.specs.Holds.{matcher_holds}
use Rattle.cd_chain.proofs.keys.path_matcher.Given as goal

abbrev pub invariant-loop-matcher : goal.invariant-loop-matcher
invariant-loop-matcher l = (x : Scene) → list_all (matcher_holds x) l.matcher-items ≡ true → list_all (matcher_holds x) (drop l.matcher-index l.matcher-items) ≡ true
