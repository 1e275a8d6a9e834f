-- Part of the main theorem.
-- What is acknowledged had been kept first.
use Rattle.std.specs.Prelude.{◌≡◌, ◌<◌, ℕ, ◌+◌, true, List, [], ◌∷◌, ◌++◌, length, Contains}
use Rattle.cd_outside.specs.declared.address.Address.{Address}
use Rattle.cd_outside.specs.declared.past.KeepRecord.{KeepRecord}
use Rattle.cd_tree.specs.declared.tree.Tree.{Tree}
use Rattle.cd_tree.specs.Tree.{text}
use Rattle.cd_legal.specs.Placed.{Placed, placed_entries, met}
use Rattle.cd_legal.specs.Serials.{publishings}
use Rattle.cd_admin.specs.Admin.{persists}
use Rattle.cd_serve.specs.Meanings.{Meaning}
use Rattle.cd_serve.specs.Episodes.{Replaces}
use Rattle.cd_serve.specs.Replies.{Reply, all_sent}

-- the last episode of the reply asked for this tree, and published it as this serial
pub record HasPublished (m : Meaning) (k : ℕ) (at : Address) (r : Reply) (serial : ℕ) (tree : Tree) : Type 0 where
  pub begin : Placed
  pub rest : List Placed
  pub last : r.last ≡ begin ∷ rest
  pub asks : Replaces m k at r.request begin tree
  pub next : serial ≡ (met begin).serial + 1
  pub publishes : 0 < publishings (placed_entries r.last)

-- Of the replies on a connection that kept these: where a tree was published for one that is to be kept, and a byte of its answer was
-- put, it had been kept after just what was put for the replies before.
abbrev pub AreKeptFirst : Meaning → ℕ → Address → List KeepRecord → List Reply → Type 0
AreKeptFirst m k at keeps replies =
    (before later : List Reply) (r : Reply) (serial : ℕ) (tree : Tree) → replies ≡ before ++ r ∷ later
    → HasPublished m k at r serial tree → persists tree ≡ true → ¬ (r.sent.put ≡ [])
    → Contains keeps (record { put = length (all_sent before).put; serial = serial; text = text tree })
