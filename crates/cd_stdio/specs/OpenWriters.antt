-- The log writers that are open.
use Rattle.std.specs.Prelude.{ℕ, List, ◌++◌, Option, option_map}
use Rattle.std.specs.List.{find, before_first, after_first}
use Rattle.std.specs.Str.{bytes_eq}
use Rattle.cd_stdio.specs.declared.open_writers.Named.{Named}

-- the one with this name: of several the first
abbrev pub writer_of : {W : Type 0} → List ℕ → List (Named W) → Option W
writer_of name ones = option_map (λ one. one.writer) (find (λ one. bytes_eq one.name name) ones)

-- the others: those before the first one with this name, and those after it
abbrev pub without : {W : Type 0} → List ℕ → List (Named W) → List (Named W)
without name ones = before_first (λ one. bytes_eq one.name name) ones ++ after_first (λ one. bytes_eq one.name name) ones
