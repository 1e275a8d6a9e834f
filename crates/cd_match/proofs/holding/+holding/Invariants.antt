use Rattle.std.proofs.Common.{◌≡◌, drop}
use Rattle.std.specs.List.{list_any, list_all}
use Rattle.cd_match.specs.Holds.{set_holds, matcher_holds}
use Rattle.cd_match.proofs.holding.+holding.Given as goal

abbrev pub invariant-some_holds-loop-set : goal.invariant-some_holds-loop-set
invariant-some_holds-loop-set l =
    list_any (set_holds l.scene) l.sets ≡ list_any (set_holds l.scene) (drop l.set-index l.sets)

abbrev pub invariant-set_holds-loop-matcher : goal.invariant-set_holds-loop-matcher
invariant-set_holds-loop-matcher l =
    list_all (matcher_holds l.scene) l.matcher-items ≡ list_all (matcher_holds l.scene) (drop l.matcher-index l.matcher-items)
