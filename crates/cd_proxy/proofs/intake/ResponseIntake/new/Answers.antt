use Rattle.std.proofs.Common.{List, ℕ, subst, sym, arith}
use Rattle.cd_proxy.specs.Taking.{IsKept}
use Rattle.cd_proxy.proofs.intake.ResponseIntake.new.Goals as goal

pub invariant_of-result : goal.invariant_of-result
invariant_of-result c = (
  omega arith,
  subst (λ (b : List ℕ). IsKept c.args.to_head b c.no_search.result) (sym c.none.ensures) (c.no_search.ensures c.args.to_head),
)
