-- Part of the main theorem.
-- The parts of the history of a run, in their order.
use Rattle.std.specs.Prelude.{◌≡◌, ℕ, ◌<◌, ◌≤◌, cond, List, [], ◌++◌}
use Rattle.cd_tree.specs.declared.tree.Tree.{Tree}
use Rattle.cd_legal.specs.declared.plan.Plan.{Plan}
use Rattle.cd_legal.specs.declared.entry.Entry.{Entry}
use Rattle.cd_legal.specs.declared.entry.Signed.{Signed}
use Rattle.cd_legal.specs.Entry.{mine}
use Rattle.cd_legal.specs.Legal.{state_at}
use Rattle.cd_gate.specs.Growing.{all_signed}
use Rattle.cd_serve.specs.Episodes.{another_halted}
use Rattle.cd_host.specs.Program.{Start, start_entries, halt_entries}

-- the entries by which the program ends, after this history: none where a lane has halted, and else those of its own halt
abbrev pub end_entries : List Signed → List Entry
end_entries log = cond (another_halted 0 log) [] (halt_entries (state_at log))

-- The program starts; then come the entries of the lanes, and none of the program's; then it ends.
pub record HasParts (first : Tree) (plan : Plan) (start : Start) (history : List Signed) : Type 0 where
  pub lanes : List Signed
  pub others : mine 0 lanes ≡ []
  pub whole : history ≡ (all_signed 0 (start_entries first plan start) ++ lanes) ++ all_signed 0 (end_entries (all_signed 0 (start_entries first plan start) ++ lanes))

-- nobody signs it but the program and so many lanes, of which the first has pass 1
abbrev pub IsSignedByLanes : ℕ → List Signed → Type 0
IsSignedByLanes lanes history = (k : ℕ) → lanes < k → mine k history ≡ []

-- nobody signs it but the program
abbrev pub IsAlone : List Signed → Type 0
IsAlone log = (k : ℕ) → 1 ≤ k → mine k log ≡ []
