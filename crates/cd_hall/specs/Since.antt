-- What a pass has made between two of its views, by the places of its entries.
use Rattle.std.specs.Prelude.{◌≡◌, ℕ, List, [], ◌∷◌, ◌++◌}
use mathlib.Core.List.{IsPrefix}
use Rattle.cd_legal.specs.declared.entry.Signed.{Signed}
use Rattle.cd_legal.specs.Entry.{mine}
use Rattle.cd_legal.specs.Placed.{Placed, placed, placed_entries, through}
use Rattle.cd_legal.specs.Signing.{IsHistory}
use Rattle.cd_gate.specs.declared.view.View.{View}
use Rattle.cd_gate.specs.Growing.{all_signed, owes_after}
use Rattle.cd_gate.specs.Words.{owed}
use Rattle.cd_hall.specs.Spread.{Starts}

-- the history up to and including the last of these entries, or what was found where there is none
abbrev pub reached : ℕ → List Signed → List Placed → List Signed
reached k found [] = found
reached k found (p ∷ ps) = through k (p ∷ ps)

-- between its views v and w a pass has made these entries, each at its place; those of others may come in between. What was found is
-- the history right before the first of them, or what the pass has seen where there is none. It begins with what the pass had seen
pub record Since {T : Type 0} (v w : View T) (found : List Signed) (added : List Placed) : Type 0 where
  pub seen : IsPrefix v.seen found
  pub first : Starts found added w.seen
  pub after : IsPrefix found w.seen
  pub reached_is : w.seen ≡ reached v.number found added
  pub history : IsHistory w.seen
  -- it had seen all of its entries, and has seen these too
  pub before : mine v.number v.seen ≡ v.mine
  pub own : mine v.number w.seen ≡ w.mine
  pub placed_is : placed v.number w.seen ≡ placed v.number v.seen ++ added
  pub adds : w.mine ≡ v.mine ++ all_signed v.number (placed_entries added)
  pub owes : owed w ≡ owes_after (owed v) (placed_entries added)
  -- but for what is said above, its turn, what it has checked, made ready and left unsettled, and its duties, all is as it was
  pub same : w ≡ record v { turn = w.turn; checked = w.checked; ready = w.ready; unsettled = w.unsettled; seen = w.seen; mine = w.mine; ticket = w.ticket; draft = w.draft; duties = w.duties }
