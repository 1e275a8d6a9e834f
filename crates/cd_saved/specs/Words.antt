-- The words of a program that saves.
use Rattle.std.specs.Prelude.{ℕ, ◌&&◌, List, [], ◌∷◌, Option, Some, None, codes, bytes_eq, if◌then◌else◌}
use Rattle.cd_tree.specs.declared.tree.Tree.{Tree}
use Rattle.cd_program.specs.declared.initial.Initial as initial
use Rattle.cd_program.specs.declared.initial.Initial.TheVariants as Initial
use Rattle.cd_saved.specs.declared.saved_run.SavedRun.{SavedRun}
use Rattle.cd_saved.specs.declared.saved_run.SavedRun.TheVariants.{OfFile, Null, Resumed}

-- Which run that saves the words ask for: `run`, `run --resume` or `run --config FILE`. All other words ask for none.
abbrev pub saved_run : List (List ℕ) → Option SavedRun
saved_run [] = None
saved_run (word ∷ []) = if bytes_eq word (codes "run") then Some Null else None
saved_run (word ∷ option ∷ []) = if bytes_eq word (codes "run") && bytes_eq option (codes "--resume") then Some Resumed else None
saved_run (word ∷ option ∷ file ∷ []) = if bytes_eq word (codes "run") && bytes_eq option (codes "--config") then Some OfFile else None
saved_run (word ∷ option ∷ file ∷ other ∷ more) = None

-- What it begins with, where this tree was saved. Where none was saved, `run --resume` begins with the tree null.
abbrev pub initial_of : SavedRun → Option Tree → initial.Initial
initial_of OfFile saved = Initial.OfFile
initial_of Null saved = Initial.Null
initial_of Resumed None = Initial.Null
initial_of Resumed (Some tree) = Initial.Saved tree
