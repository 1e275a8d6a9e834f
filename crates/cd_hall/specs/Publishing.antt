-- When a configuration may follow that of a ticket.
use Rattle.std.specs.Prelude.{ℕ, ◌==◌, cond, nat_lt, Option, Some, None}
use Rattle.cd_legal.specs.declared.limits.TheConstants.{LAST_SERIAL}
use Rattle.cd_legal.specs.declared.state.State.{State}
use Rattle.cd_life.specs.declared.board.Draft.{Draft}
use Rattle.cd_hall.specs.declared.kept.Kept.{Kept}
use Rattle.cd_hall.specs.declared.kept.Kept.TheVariants.{Superseded, Full, Exhausted}
use Rattle.cd_hall.specs.Room.{oldest_before, is_full}

-- why nothing may follow: a later configuration is there, of this serial; one that is long superseded is not retired; or no
-- serial is left
pub data Refusal : Type 0 where
  superseded : ℕ → Refusal
  full : ℕ → Refusal
  exhausted : Refusal

-- why nothing may follow the configuration with the serial, by these tests in their order
abbrev pub refusal : State → ℕ → Option Refusal
refusal s serial =
    cond (nat_lt serial s.serial) (Some (Refusal.superseded s.serial))
    (cond (is_full s s.serial) (Some (Refusal.full (oldest_before s.serial)))
    (cond (s.serial == LAST_SERIAL) (Some Refusal.exhausted) None))

-- why a draft was not published
abbrev pub refusal_in : {A B : Type 0} {g : _} → Kept A B g → Refusal
refusal_in (Superseded serial draft) = Refusal.superseded serial
refusal_in (Full serial draft) = Refusal.full serial
refusal_in (Exhausted draft) = Refusal.exhausted

-- the draft that was not
abbrev pub draft_in : {A B : Type 0} {g : _} → Kept A B g → Draft A B g
draft_in (Superseded serial draft) = draft
draft_in (Full serial draft) = draft
draft_in (Exhausted draft) = draft
