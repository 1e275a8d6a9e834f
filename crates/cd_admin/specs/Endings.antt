-- Part of the main theorem.
-- How a test of a request ends: it goes on with a value, or the request ends there.
use Rattle.std.specs.Prelude.{Result, Err}
use Rattle.cd_admin.specs.declared.denial.Denial.{Denial}
use Rattle.cd_admin.specs.declared.ending.Ending.{Ending}
use Rattle.cd_admin.specs.declared.ending.Ending.TheVariants.{Denied}

-- a test goes on with a value, or ends the request
abbrev pub Test : Type 0 → Type 0
Test A = Result A Ending

-- the request is refused
abbrev pub denied : {A : Type 0} → Denial → Test A
denied denial = Err (Denied denial)
