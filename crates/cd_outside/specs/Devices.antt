-- Part of the main theorem.
-- What is seen of a part of the outside between two moments.
use Rattle.std.specs.Prelude.{◌≡◌, ℕ, Option}
use Rattle.cd_outside.specs.Counts.{Rose}

-- what a part of the outside told and tells now, and how often its calls had failed and have
pub record Device (T : Type 0) : Type 0 where
  pub told_before : Option T
  pub told_now : Option T
  pub failed_before : ℕ
  pub failed_now : ℕ

-- a call on it has failed in between
abbrev pub HasFailed : {T : Type 0} → Device T → Type 0
HasFailed d = Rose d.failed_before d.failed_now

-- no call on it has failed
abbrev pub IsUnfailed : {T : Type 0} → Device T → Type 0
IsUnfailed d = ¬ (HasFailed d)

-- it tells what it told, and no call on it has failed in between
pub record IsSilent {T : Type 0} (d : Device T) : Type 0 where
  pub told : d.told_now ≡ d.told_before
  pub failed : d.failed_now ≡ d.failed_before

-- a part of the outside that was this and is that, by what it tells and how often it has failed
abbrev pub device : {A T : Type 0} → (A → Option T) → (A → ℕ) → A → A → Device T
device told failed before now = record { told_before = told before; told_now = told now; failed_before = failed before; failed_now = failed now }
