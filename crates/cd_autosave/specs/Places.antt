-- Where the two slots stand.
use Rattle.std.specs.Prelude.{ℕ}
use Rattle.cd_autosave.specs.declared.slot.Slot.{Slot}
use Rattle.cd_autosave.specs.declared.slot.Slot.TheVariants.{First, Second}
use Rattle.cd_autosave.specs.declared.limits.TheConstants.{SECOND_START}

-- where a slot begins
abbrev pub start_of : Slot → ℕ
start_of First = 0
start_of Second = SECOND_START

abbrev pub other : Slot → Slot
other First = Second
other Second = First
