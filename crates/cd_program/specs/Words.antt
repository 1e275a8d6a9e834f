-- Part of the main theorem.
-- The words that the program is called with.
use Rattle.std.specs.Prelude.{ℕ, ◌&&◌, Bool, true, false, List, [], ◌∷◌, codes, bytes_eq, decimal, ◌^◌, nat_lt, if◌then◌else◌}
use Rattle.std.specs.Str.Parse.{digits_value}
use Rattle.cd_tree.specs.Tree.{IsSound}
use Rattle.cd_program.specs.declared.command.Command.{Command}
use Rattle.cd_program.specs.declared.command.Command.TheVariants.{Serve, Validate, Adapt, Storm, Unknown}
use Rattle.cd_program.specs.declared.initial.Initial.{Initial}
use Rattle.cd_program.specs.declared.initial.Initial.TheVariants.{OfFile, Null, Saved}

-- the decimal of a number below 2^64
abbrev pub is_number : List ℕ → Bool
is_number text = bytes_eq text (decimal (digits_value 10 text)) && nat_lt (digits_value 10 text) (2 ^ 64)

-- what a word asks for that `--config FILE` follows
abbrev pub with_file : List ℕ → Command
with_file word =
    if bytes_eq word (codes "stdio") then Serve OfFile
    else if bytes_eq word (codes "run") then Serve OfFile
    else if bytes_eq word (codes "validate") then Validate
    else if bytes_eq word (codes "adapt") then Adapt
    else Unknown

-- what a word asks for that follows `storm`
abbrev pub storm_of : List ℕ → Command
storm_of text = if is_number text then Storm (digits_value 10 text) else Unknown

-- what the words ask for: `stdio --config FILE`, `run --config FILE`, `run`, `validate --config FILE`, `adapt --config FILE`, or `storm N`
abbrev pub command : List (List ℕ) → Command
command [] = Unknown
command (word ∷ []) = if bytes_eq word (codes "run") then Serve Null else Unknown
command (word ∷ number ∷ []) = if bytes_eq word (codes "storm") then storm_of number else Unknown
command (word ∷ option ∷ file ∷ []) = if bytes_eq option (codes "--config") then with_file word else Unknown
command (word ∷ option ∷ file ∷ other ∷ more) = Unknown

-- a run begins with the configuration of a file
abbrev pub is_of_file : Initial → Bool
is_of_file OfFile = true
is_of_file Null = false
is_of_file (Saved tree) = false

-- a run begins with the configuration null
abbrev pub is_null : Initial → Bool
is_null OfFile = false
is_null Null = true
is_null (Saved tree) = false

-- a tree that was saved and that a run begins with is sound
abbrev pub IsSoundStart : Initial → Type 0
IsSoundStart OfFile = Unit {0}
IsSoundStart Null = Unit {0}
IsSoundStart (Saved tree) = IsSound tree

-- a file is read
abbrev pub has_file : Command → Bool
has_file (Serve initial) = is_of_file initial
has_file Validate = true
has_file Adapt = true
has_file (Storm number) = false
has_file Unknown = false
