use Rattle.std.proofs.Common.{◌≡◌, map}
use Rattle.cd_parts.specs.declared.measured.Measured.{Measured}
use Rattle.cd_parts.proofs.measured.trees_of.Given as goal

abbrev pub invariant-loop-item : goal.invariant-loop-item
invariant-loop-item l = l.trees ≡ map (λ (m : Measured). m.tree) l.yielded
