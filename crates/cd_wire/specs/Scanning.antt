-- Part of the main theorem.
-- For the clauses of private functions: where a head ends, which is after an empty line that follows another line.
use Rattle.std.specs.Prelude.{ℕ, ◌==◌, Bool, true, false, ◌||◌, if◌then◌else◌, List, [], ◌∷◌}
use Rattle.cd_wire.specs.declared.scanning.Line.{Line}
use Rattle.cd_wire.specs.declared.scanning.Line.TheVariants.{Blank, Inside, Ended, EndedCr, Over}

-- where the bytes stand after one more: 10 is LF, 13 is CR
abbrev pub step : Line → ℕ → Line
step Blank byte = if byte == 10 || byte == 13 then Blank else Inside
step Inside byte = if byte == 10 then Ended else Inside
step Ended byte = if byte == 10 then Over else (if byte == 13 then EndedCr else Inside)
step EndedCr byte = if byte == 10 then Over else Inside
step Over byte = Over

-- where they stand after these
abbrev pub scan : Line → List ℕ → Line
scan line [] = line
scan line (byte ∷ bytes) = scan (step line byte) bytes

abbrev pub is_over : Line → Bool
is_over Blank = false
is_over Inside = false
is_over Ended = false
is_over EndedCr = false
is_over Over = true
