-- What is known of the program's own pass when all passes have come together.
use Rattle.std.specs.Prelude.{◌≡◌, ◌⊎◌, ◌≤◌, ℕ, true, List, []}
use mathlib.Core.List.{IsPrefix}
use Rattle.cd_legal.specs.declared.entry.Entry.{Entry}
use Rattle.cd_legal.specs.declared.entry.Signed.{Signed}
use Rattle.cd_legal.specs.Entry.{mine}
use Rattle.cd_legal.specs.Legal.{IsLegal, state_at}
use Rattle.cd_legal.specs.Placed.{Placed, placed_entries}
use Rattle.cd_legal.specs.Whole.{all_retired}
use Rattle.cd_gate.specs.declared.view.View.{View}
use Rattle.cd_gate.specs.Growing.{Places}
use Rattle.cd_serve.specs.Changes.{IsHalting}

module _ {T : Type 0} where
  -- a pass that had the view v has made these entries since, and has the view w
  abbrev pub HasSigned : View T → View T → List Entry → Type 0
  HasSigned v w made = (added : List Placed) × Places v w added × (placed_entries added ≡ made)

  -- the program has halted, or has found the host halted
  abbrev pub HasHalted : View T → View T → Type 0
  HasHalted v w = ((work : List Placed) × Places v w work × IsHalting work) ⊎ (Places v w [] × ((state_at w.seen).halted ≡ true))

  -- The program's pass was new (v), made these entries in its start (w), was told what the passes of the lanes had seen (y), and
  -- then halted, or found that a lane had (z). This is the history that all passes have made.
  pub record IsJoined (v w y z : View T) (made : List Entry) (log : List Signed) : Type 0 where
    pub number : v.number ≡ 0
    pub new_seen : v.seen ≡ []
    pub new_mine : v.mine ≡ []
    pub starts : HasSigned v w made
    pub told : IsPrefix w.seen y.seen
    pub same : y ≡ record w { seen = y.seen }
    pub halts : HasHalted y z
    pub legal : IsLegal log
    pub seen : IsPrefix z.seen log
    pub own : mine 0 log ≡ z.mine
    pub retired : all_retired (state_at log).serial (state_at log).retired ≡ true

-- no lane has signed what the program had seen after its start, and none signed anything after what it had seen before its halt
abbrev pub AreBetween : List Signed → List Signed → List Signed → Type 0
AreBetween start found log = (k : ℕ) → 1 ≤ k → (mine k start ≡ []) × (mine k log ≡ mine k found)
