-- A run whose lanes save, while their shares are known by their sum.
use Rattle.std.specs.Prelude.{◌≡◌, ℕ, List, length, sum}
use Rattle.cd_host.specs.Hosting.{serving_line}
use Rattle.cd_program.specs.declared.initial.Initial.{Initial}
use Rattle.cd_program.specs.Output.{FellShort}
use Rattle.cd_program.specs.Seen.{IsUnserved, Seen}
use Rattle.cd_program.specs.Top.{ExitsWith, Serves, standard}
use Rattle.cd_saved.specs.Shares.{shared}

pub record RanShared {F L : Type 0} (initial : Initial) (s : Seen F L) (code total : ℕ) : Type 0 where
  pub shares : List ℕ
  pub count : length shares ≡ length s.lanes
  pub total_is : sum shares ≡ total
  pub ends : ExitsWith code (Serves standard initial (shared s shares))
  pub short : FellShort serving_line s.output.told_before s.output.told_now → IsUnserved s
