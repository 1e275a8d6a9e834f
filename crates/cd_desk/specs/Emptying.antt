-- When nothing is left of a desk.
use Rattle.std.specs.Prelude.{◌≡◌, ℕ, true, List, Option, None}
use Rattle.std.specs.List.{list_all}
use Rattle.cd_outside.specs.declared.fixtures.FixtureCall.{FixtureCall}
use Rattle.cd_legal.specs.declared.entry.Signed.{Signed}
use Rattle.cd_legal.specs.declared.state.State.{State}
use Rattle.cd_legal.specs.State.{ticket_of}
use Rattle.cd_legal.specs.Legal.{state_at}
use Rattle.cd_legal.specs.Whole.{is_closed}
use Rattle.cd_desk.specs.declared.desk.Desk.{Desk}
use Rattle.cd_desk.specs.Desks.{Holds}

-- each draft is closed, and no caller has a ticket; so no key has a pair
pub record IsEnded (s : State) : Type 0 where
  pub closed : list_all (is_closed s.retired) s.drafts ≡ true
  pub free : (caller : ℕ) → ticket_of caller s.tickets ≡ None

-- the desk stands for a history after which nothing is left
abbrev pub HasEnded : {F : Type 0} → (F → Option (List FixtureCall)) → Desk F → Type 0
HasEnded {F} calls b = (opening : Desk F) × (log : List Signed) × Holds calls opening b log × IsEnded (state_at log)
