-- What a step of a replay does to the state.
use Rattle.std.specs.Prelude.{◌≡◌, ℕ, Bool, not, IsTrue, IfOk, Result}
use Rattle.cd_text.specs.declared.memory.NoMemory.{NoMemory}
use Rattle.cd_legal.specs.declared.entry.Entry.{Entry}
use Rattle.cd_legal.specs.declared.part.Part.{Part}
use Rattle.cd_legal.specs.declared.part.Part.TheVariants.{Instance, App}
use Rattle.cd_legal.specs.declared.state.State.{State}
use Rattle.cd_legal.specs.declared.state.Drafted.{Drafted}
use Rattle.cd_legal.specs.Legal.{allowed, after, may_stop, may_clean}

-- it is the last one that is opened and not ended, and may be ended
abbrev pub may_end : Part → ℕ → State → Drafted → Bool
may_end Instance i s = may_clean i s.retired
may_end App a s = may_stop a s.serial

-- a step from a state: whether it may be; where it may, what it leaves, and where it may not, the state as it was
abbrev pub StepsTo : Bool → State → State → Result Bool NoMemory → State → Type 0
StepsTo allows s left result t = IfOk result (λ may. (may ≡ allows) × (IsTrue may → t ≡ left) × (IsTrue (not may) → t ≡ s))

-- that of an entry
abbrev pub Steps : State → Entry → Result Bool NoMemory → State → Type 0
Steps s e result t = StepsTo (allowed s e) s (after s e) result t
