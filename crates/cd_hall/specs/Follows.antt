-- Which draft may follow which configuration.
use Rattle.std.specs.Prelude.{◌≡◌, ◌<◌, ◌+◌, ℕ, true, false, Option, Some, None}
use Rattle.cd_tree.specs.declared.tree.Tree.{Tree}
use Rattle.cd_wire.specs.declared.request.Request.{Request}
use Rattle.cd_legal.specs.declared.limits.TheConstants.{LAST_SERIAL, MAX_UNRETIRED}
use Rattle.cd_legal.specs.Legal.{state_at}
use Rattle.cd_legal.specs.State.{conf_of, has_number}
use Rattle.cd_gate.specs.declared.view.View.{View}
use Rattle.cd_life.specs.Fits.{Suits}
use Rattle.cd_life.specs.Origins.{change_of}
use Rattle.cd_hall.specs.declared.publishing.Successor.{Successor}
use Rattle.cd_hall.specs.Drafts.{IsDraftOf, IsWholeDraft, held}

-- the pass has left no superseded serial unsettled. Its draft is all there, and by its change follows the configuration of its
-- request; this is current, the host runs, a serial is left, and the one is retired from which on too many would be unretired
pub record MayFollow {T A B : Type 0} {g : _} (makes : Tree → Request → Option Tree) (v : View T) (x : Successor A B g) : Type 0 where
  pub settled : v.unsettled ≡ None
  pub draft : IsDraftOf v x.draft
  pub whole : IsWholeDraft (held x.draft)
  pub ticket : v.ticket ≡ Some x.serial
  pub current : x.serial ≡ (state_at v.seen).serial
  pub running : (state_at v.seen).halted ≡ false
  pub change : Suits makes (conf_of (state_at v.seen) x.serial) (change_of x.origin) (held x.draft).tree
  pub room : x.serial < LAST_SERIAL
  pub retired : (k : ℕ) → k + MAX_UNRETIRED ≡ x.serial + 1 → has_number k (state_at v.seen).retired ≡ true
