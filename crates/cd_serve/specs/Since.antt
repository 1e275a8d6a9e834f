-- Part of the main theorem.
-- No request of a connection is answered under an older configuration than the connection had seen, whichever lane had served it before.
use Rattle.std.specs.Prelude.{◌≡◌, ◌⊎◌, ◌++◌, ◌∷◌, ℕ, true, List, [], IsTrue}
use Rattle.cd_outside.specs.declared.past.Connection.{Connection}
use Rattle.cd_legal.specs.Fresh.{is_fresh_from}
use Rattle.cd_legal.specs.Placed.{Placed}
use Rattle.cd_session.specs.Ways.{is_interrupted}
use Rattle.cd_serve.specs.Meanings.{nothing_sent, sent_on}
use Rattle.cd_serve.specs.Episodes.{Episode}
use Rattle.cd_serve.specs.Connections.{Ending}

-- each Begin of these entries names the serial that it meets, and none older than this one, nor than one that an entry before it names
abbrev pub FreshSince : ℕ → List Placed → Type 0
FreshSince since own = IsTrue (is_fresh_from since own)

-- the first request of the connection was its last: nothing stands between its Begin and its Finish, the connection was interrupted,
-- and nothing was sent on it
pub record IsUnanswered (k : ℕ) (c : Connection) (e : Ending) : Type 0 where
  pub only : Episode k e.own
  pub nothing_done : only.work ≡ []
  pub interrupted : is_interrupted e.way ≡ true
  pub unsent : sent_on c ≡ nothing_sent

-- A request had last begun on the connection under this serial when it came. None began under an older one since then; or the first
-- one that did got no answer.
abbrev pub KeepsUp : ℕ → ℕ → Connection → Ending → Type 0
KeepsUp k since c e = FreshSince since e.own ⊎ IsUnanswered k c e

-- so each of these connections, by its own serial
abbrev pub KeepUp : ℕ → List ℕ → List Connection → List Ending → Type 0
KeepUp k [] [] [] = Unit {0}
KeepUp k (since ∷ more) (c ∷ cs) (e ∷ es) = KeepsUp k since c e × KeepUp k more cs es
KeepUp k [] [] (e ∷ es) = ⊥
KeepUp k [] (c ∷ cs) es = ⊥
KeepUp k (since ∷ more) [] es = ⊥
KeepUp k (since ∷ more) (c ∷ cs) [] = ⊥

-- what a lane told of the time before each of its connections came, and tells now: a serial more for each of those that pass k served
pub record AddsSince (k : ℕ) (cs : List Connection) (es : List Ending) (before now : List ℕ) : Type 0 where
  pub serials : List ℕ
  pub added : now ≡ before ++ serials
  pub each : KeepUp k serials cs es
