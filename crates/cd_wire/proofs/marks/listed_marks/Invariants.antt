use Rattle.std.proofs.Common.{take}
use Rattle.cd_wire.specs.Marks.{AreMarks}
use Rattle.cd_wire.proofs.marks.listed_marks.Given as goal

-- what the fields so far have
abbrev pub invariant-loop-field : goal.invariant-loop-field
invariant-loop-field l = AreMarks (take l.field-index l.fields) l.marks
