-- A serial that is retired.
use Rattle.std.specs.Prelude.{◌≡◌, ◌<◌, ℕ, true}
use Rattle.cd_legal.specs.declared.state.State.{State}
use Rattle.cd_legal.specs.State.{apps_stopped, has_number}

-- it is superseded and retired, and its apps are stopped
pub record IsRetired (s : State) (serial : ℕ) : Type 0 where
  pub superseded : serial < s.serial
  pub retired : has_number serial s.retired ≡ true
  pub stopped : apps_stopped s serial ≡ true
