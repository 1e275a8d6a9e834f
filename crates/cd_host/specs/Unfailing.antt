-- Part of the main theorem.
-- A run in which no lane failed: how its lanes ended.
use Rattle.std.specs.Prelude.{◌≡◌, List, [], ◌∷◌, Some, IfSome}
use Rattle.cd_outside.specs.declared.accepted.Accepted.TheVariants as accepted
use Rattle.cd_serve.specs.Reports.{Span}

-- each lane that tells its past tells that no more comes
abbrev pub HaveEnded : List Span → Type 0
HaveEnded [] = Unit {0}
HaveEnded (lane ∷ lanes) = IfSome lane.told_now (λ past. past.last ≡ Some accepted.Ended) × HaveEnded lanes
