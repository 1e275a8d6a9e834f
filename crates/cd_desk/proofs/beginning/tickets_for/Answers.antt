use Rattle.std.proofs.Common.{◌≤◌, ℕ, ap, length, subst, sym, ◌∙◌}
use Rattle.cd_legal.specs.declared.limits.TheConstants.{MAX_PASSES}
use Rattle.cd_desk.proofs.Untouched.{length_none}
use Rattle.cd_desk.proofs.beginning.tickets_for.Goals as goal

pub invariant_of-result : goal.invariant_of-result
invariant_of-result c = record { few = subst (λ (z : ℕ). z ≤ MAX_PASSES) (sym (ap length c.requires.places ∙ length_none c.args.callers)) c.requires.few }
