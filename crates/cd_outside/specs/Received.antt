-- Part of the main theorem.
-- What a read into an intake answers.
use Rattle.std.specs.Prelude.{◌≡◌, ◌<◌, ℕ, true, List, ◌++◌, length}
use Rattle.cd_outside.specs.declared.received.Received.{Received}
use Rattle.cd_outside.specs.declared.received.Received.TheVariants as received
use Rattle.cd_outside.specs.declared.past.Past.{Past}
use Rattle.cd_outside.specs.Past.{with_connection}

-- what it leaves of the bytes that were there, where this piece came
abbrev pub IsReceived : Received → List ℕ → List ℕ → List ℕ → Type 0
IsReceived received.Some piece before now = (0 < length piece) × (now ≡ before ++ piece)
IsReceived received.End piece before now = now ≡ before
IsReceived received.Failed piece before now = now ≡ before
IsReceived received.Lacking piece before now = now ≡ before

-- what the lane tells then
abbrev pub after_receipt : Received → List ℕ → Past → Past
after_receipt received.Some piece past = with_connection (λ connection. record connection { taken = connection.taken ++ piece }) past
after_receipt received.End piece past = with_connection (λ connection. record connection { ended = true }) past
after_receipt received.Failed piece past = past
after_receipt received.Lacking piece past = with_connection (λ connection. record connection { taken = connection.taken ++ piece }) past
