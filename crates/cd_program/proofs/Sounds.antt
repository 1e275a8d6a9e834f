-- No words ask for a run that begins with a tree that was saved.
use Rattle.std.proofs.Common.{Bool, true, false, ℕ, List, [], ◌∷◌}
use Rattle.std.specs.Prelude.{bytes_eq, codes, if◌then◌else◌}
use Rattle.std.specs.Str.Parse.{digits_value}
use Rattle.cd_program.specs.declared.command.Command.{Command}
use Rattle.cd_program.specs.declared.command.Command.TheVariants.{Serve, Validate, Adapt, Storm, Unknown}
use Rattle.cd_program.specs.declared.initial.Initial.TheVariants.{OfFile, Null}
use Rattle.cd_program.specs.Words.{IsSoundStart, command, is_number, storm_of, with_file}

abbrev pub IsSoundCommand : Command → Type 0
IsSoundCommand (Serve initial) = IsSoundStart initial
IsSoundCommand Validate = Unit {0}
IsSoundCommand Adapt = Unit {0}
IsSoundCommand (Storm number) = Unit {0}
IsSoundCommand Unknown = Unit {0}

either : (b : Bool) (one other : Command) → IsSoundCommand one → IsSoundCommand other → IsSoundCommand (if b then one else other)
either true one other first second = first
either false one other first second = second

file_sound : (word : List ℕ) → IsSoundCommand (with_file word)
file_sound word =
    let adapts : Command = if bytes_eq word (codes "adapt") then Adapt else Unknown in
    let validates : Command = if bytes_eq word (codes "validate") then Validate else adapts in
    let runs : Command = if bytes_eq word (codes "run") then Serve OfFile else validates in
    either (bytes_eq word (codes "stdio")) (Serve OfFile) runs tt
    (either (bytes_eq word (codes "run")) (Serve OfFile) validates tt
    (either (bytes_eq word (codes "validate")) Validate adapts tt
    (either (bytes_eq word (codes "adapt")) Adapt Unknown tt tt)))

pub command_sound : (words : List (List ℕ)) → IsSoundCommand (command words)
command_sound [] = tt
command_sound (word ∷ []) = either (bytes_eq word (codes "run")) (Serve Null) Unknown tt tt
command_sound (word ∷ number ∷ []) = either (bytes_eq word (codes "storm")) (storm_of number) Unknown (either (is_number number) (Storm (digits_value 10 number)) Unknown tt tt) tt
command_sound (word ∷ option ∷ file ∷ []) = either (bytes_eq option (codes "--config")) (with_file word) Unknown (file_sound word) tt
command_sound (word ∷ option ∷ file ∷ other ∷ more) = tt
