-- What a lane below is seen to have received.
use Rattle.std.specs.Prelude.{ℕ, List, [], length, drop}
use Rattle.cd_outside.specs.declared.received.Received.{Received}
use Rattle.cd_outside.specs.declared.received.Received.TheVariants as received

-- the bytes that an intake has now and had not before; none where the call answers that none are there
abbrev pub came : Received → List ℕ → List ℕ → List ℕ
came received.Some before now = drop (length before) now
came received.End before now = []
came received.Failed before now = []
came received.Lacking before now = []
