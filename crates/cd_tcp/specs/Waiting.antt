-- When a connection gets a lane, by what was found in what has come.
use Rattle.std.specs.Prelude.{ℕ, Bool, true}
use Rattle.cd_wire.specs.declared.intake.Look.{Look}
use Rattle.cd_wire.specs.declared.intake.Look.TheVariants as look
use Rattle.cd_tcp.specs.Budgets.{is_too_much}

-- a whole request has come, or no more of it can; or more than is kept
abbrev pub is_due : Look → ℕ → ℕ → Bool
is_due look.Whole own all = true
is_due (look.Refused fault) own all = true
is_due look.Cut own all = true
is_due look.End own all = true
is_due look.More own all = is_too_much own all
