-- What is known of a pass between its calls.
use Rattle.std.specs.Prelude.{◌≡◌, ℕ, ◌+◌, ◌==◌, ◌&&◌, cond, Bool, true, false, List, [], ◌∷◌, Option, None}
use Rattle.cd_legal.specs.declared.entry.Entry.{Entry}
use Rattle.cd_legal.specs.declared.entry.Entry.TheVariants.{Begin}
use Rattle.cd_legal.specs.declared.entry.Signed.{Signed}
use Rattle.cd_legal.specs.Entry.{mine}
use Rattle.cd_legal.specs.Laws.{core_at}
use Rattle.cd_legal.specs.Legal.{state_at}
use Rattle.cd_legal.specs.Signing.{IsHistory}
use Rattle.cd_gate.specs.declared.gate.Gate.{Gate}
use Rattle.cd_gate.specs.declared.pass.Pass.{Pass}
use Rattle.cd_gate.specs.Passes.{view, IsIdleOf}
use Rattle.cd_gate.specs.Words.{owed}
use Rattle.cd_gate_cases.specs.declared.board.Board.{Board}
use Rattle.cd_gate_cases.specs.declared.board.Board.TheVariants.{Retired}
use Rattle.cd_gate_cases.specs.declared.requests.Request.{Request}
use Rattle.cd_gate_cases.specs.Boards.{StandsFor}

-- it begins a request
abbrev pub is_begin : Entry → Bool
is_begin (Begin k n) = true
is_begin e = false

-- how many requests begin in this
abbrev pub begins : List Signed → ℕ
begins [] = 0
begins (x ∷ xs) = cond (is_begin x.entry) 1 0 + begins xs

-- how many the pass has begun
abbrev pub begun : Pass Board → ℕ
begun p = begins (view p).mine

-- an idle pass of the gate with this number, which has this ticket, no draft, and these duties; that of number 0 began with two passes
pub record Has (g : Gate Board) (p : Pass Board) (k : ℕ) (ticket : Option ℕ) (due : List ℕ) : Type 0 where
  pub idle : IsIdleOf g p
  pub number : (view p).number ≡ k
  pub owes : owed (view p) ≡ record { ticket = ticket; draft = None }
  pub duties : (view p).duties ≡ due
  pub root : k ≡ 0 → ((view p).made ≡ 2) × ((view p).joined ≡ [])

-- the pass has seen whether the serial of the request is that of the halt
abbrev pub HasSeen : Pass Board → Request → Type 0
HasSeen p request = request.halted ≡ ((state_at (view p).seen).halted && (request.serial == (state_at (view p).seen).serial))

-- the pass has seen the halt
abbrev pub HasSeenHalt : Pass Board → Type 0
HasSeenHalt p = (state_at (view p).seen).halted ≡ true

-- the host is halted and the opening configuration is retired, after one history in which each of two passes has begun so many requests
pub record Met (b : Board) (requests : ℕ) : Type 0 where
  pub log : List Signed
  pub history : IsHistory log
  pub board : StandsFor b (core_at log)
  pub ended : b ≡ Retired
  pub first : begins (mine 0 log) ≡ requests
  pub second : begins (mine 1 log) ≡ requests
