-- Lanes of which no fault rose: how they ended.
use Rattle.std.proofs.Common.{◌≡◌, ℕ, List, [], ◌∷◌, Option, Some, None, ⊎_elim}
use Rattle.std.specs.Prelude.{IfSome}
use Rattle.cd_outside.specs.declared.accepted.Accepted.TheVariants as accepted
use Rattle.cd_outside.specs.declared.past.Past.{Past}
use Rattle.cd_outside.specs.Counts.{Rose}
use Rattle.cd_serve.specs.Reports.{Span, NoneRose}
use Rattle.cd_host.specs.ServedLanes.{AreAtEnd, EndsAccepting}
use Rattle.cd_host.specs.Unfailing.{HaveEnded}

ended-one : (before now : ℕ) (told : Option Past) → ¬ (Rose before now) → IfSome told (EndsAccepting before now) → IfSome told (λ past. past.last ≡ Some accepted.Ended)
ended-one before now None none is = tt
ended-one before now (Some past) none is = ⊎_elim (λ ended. ended) (λ failed. absurd (none failed.1)) is

pub have-ended : (lanes : List Span) → NoneRose lanes → AreAtEnd lanes → HaveEnded lanes
have-ended [] none at_end = tt
have-ended (lane ∷ lanes) none at_end = (ended-one lane.failed_before lane.failed_now lane.told_now none.0 at_end.0, have-ended lanes none.1 at_end.1)
