-- Part of the main theorem.
-- How each call on a lane adds to its past.
use Rattle.std.specs.Prelude.{◌++◌, ℕ, Bool, true, false, List, [], ◌∷◌, length, take, Some}
use Rattle.cd_outside.specs.Counts.{raised}
use Rattle.cd_outside.specs.declared.taken.Taken.{Taken}
use Rattle.cd_outside.specs.declared.taken.Taken.TheVariants as taken
use Rattle.cd_outside.specs.declared.given.Given.{Given}
use Rattle.cd_outside.specs.declared.given.Given.TheVariants as given
use Rattle.cd_outside.specs.declared.accepted.Accepted.{Accepted}
use Rattle.cd_outside.specs.declared.accepted.Accepted.TheVariants as accepted
use Rattle.cd_outside.specs.declared.address.Address.{Address}
use Rattle.cd_outside.specs.declared.key.Key.{Key}
use Rattle.cd_outside.specs.declared.past.Past.{Past}
use Rattle.cd_outside.specs.declared.past.Connection.{Connection}

abbrev pub is_connection : Accepted → Bool
is_connection (accepted.Connection address) = true
is_connection accepted.Ended = false
is_connection accepted.Failed = false

-- a connection of which nothing was read or put
abbrev pub fresh : Address → Connection
fresh address = record { address = address; taken = []; ended = false; put = []; lines = []; keeps = [] }

-- the list with its last value changed
abbrev pub with_last : {A : Type 0} → (A → A) → List A → List A
with_last change [] = []
with_last change (x ∷ []) = change x ∷ []
with_last change (x ∷ y ∷ ys) = x ∷ with_last change (y ∷ ys)

-- the past with its last connection, the one that is there, changed
abbrev pub with_connection : (Connection → Connection) → Past → Past
with_connection change past = record past { connections = with_last change past.connections }

abbrev pub after_accept : Accepted → Past → Past
after_accept (accepted.Connection address) past =
    record past { last = Some (accepted.Connection address); connections = past.connections ++ fresh address ∷ [] }
after_accept accepted.Ended past = record past { last = Some accepted.Ended }
after_accept accepted.Failed past =
    record past { accept_faults = raised past.accept_faults; last = Some accepted.Failed }

abbrev pub after_read : Taken → List ℕ → Past → Past
after_read (taken.Bytes count) into past =
    with_connection (λ connection. record connection { taken = connection.taken ++ take count into }) past
after_read taken.End into past = with_connection (λ connection. record connection { ended = true }) past
after_read taken.Failed into past = past

abbrev pub after_put : List ℕ → Past → Past
after_put part past = with_connection (λ connection. record connection { put = connection.put ++ part }) past

abbrev pub after_line : Given → Key → List ℕ → Past → Past
after_line given.All key line past =
    with_connection (λ connection. record connection { lines = connection.lines ++ record { key = key; line = line } ∷ [] }) past
after_line given.Failed key line past = past

abbrev pub after_keep : Given → ℕ → List ℕ → Past → Past
after_keep given.All serial text past =
    with_connection (λ connection. record connection { keeps = connection.keeps ++ record { put = length connection.put; serial = serial; text = text } ∷ [] }) past
after_keep given.Failed serial text past = past
