use Rattle.std.proofs.Common.{◌≡◌, ◌-◌, ◌++◌, length, take}
use Rattle.form_urlencoded.specs.Form.{decode}
use Rattle.cd_fill.proofs.escapes.write_meant.Given as goal

abbrev pub invariant-loop-place : goal.invariant-loop-place
invariant-loop-place l = take (length l.fn.room) (decode l.raw) ≡ take l.place l.room ++ take (length l.fn.room - l.place) (decode l.left)
