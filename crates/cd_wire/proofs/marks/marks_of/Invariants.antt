use Rattle.std.proofs.Common.{take}
use Rattle.cd_wire.specs.Marks.{AreMarks}
use Rattle.cd_wire.specs.Places.{fields_at}
use Rattle.cd_wire.proofs.marks.marks_of.Given as goal

-- what the fields so far have
abbrev pub invariant-loop-place : goal.invariant-loop-place
invariant-loop-place l = AreMarks (fields_at l.bytes (take l.place-index l.places)) l.marks
