use Rattle.std.proofs.Common.{◌≡◌, ◌≤◌, ℕ}
use Rattle.cd_routes.specs.Running.{Rest}
use Rattle.cd_chain.specs.Places.{at}
use Rattle.cd_chain.specs.Steps.{steps_at}
use Rattle.cd_chain.proofs.stepping.over_routes.Given as goal

abbrev pub invariant-loop-matching : goal.invariant-loop-matching
invariant-loop-matching l = record {
  meaning : (back : Rest) → at l.places l.n back l.scene ≡ at l.places l.fn.start back l.fn.scene;
  less : (back : ℕ) → steps_at l.places l.n back ≤ steps_at l.places l.fn.start back;
}

abbrev pub decreases-loop-matching : goal.decreases-loop-matching
decreases-loop-matching l = steps_at l.places l.n 0
