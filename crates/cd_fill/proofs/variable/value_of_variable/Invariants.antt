use Rattle.std.proofs.Common.{◌≡◌, List, ℕ, [], fold, drop, if◌then◌else◌}
use Rattle.std.specs.Str.{bytes_eq}
use Rattle.cd_fill.specs.declared.variable.Variable.{Variable}
use Rattle.cd_fill.proofs.variable.value_of_variable.Given as goal

abbrev last_of : List ℕ → List ℕ → List Variable → List ℕ
last_of name found variables = fold (λ found v. if bytes_eq v.name name then v.value else found) found variables

abbrev pub invariant-loop-variable : goal.invariant-loop-variable
invariant-loop-variable l = last_of l.name [] l.variables ≡ last_of l.name l.found (drop l.variable-index l.variables)
