use Rattle.std.proofs.Common.{◌≡◌, drop}
use Rattle.cd_rewrite.specs.Steps.{all_replaced}
use Rattle.cd_rewrite.proofs.steps.all_replaced.Given as goal

abbrev pub invariant-loop-one : goal.invariant-loop-one
invariant-loop-one l = all_replaced l.one-items l.text ≡ all_replaced (drop l.one-index l.one-items) l.now
