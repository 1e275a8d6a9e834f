-- Part of the main theorem.
-- Which histories a board stands for.
use Rattle.std.specs.Prelude.{◌≡◌, ℕ, zero, suc, ◌+◌, ◌<◌, ◌≤◌, ◌==◌, ◌||◌, Bool, true, false, not, cond, List, [], ◌∷◌, ◌++◌, length, Option, Some, None, Result}
use Rattle.std.specs.Vec.{vec_len, vec_capacity}
use Rattle.cd_outside.specs.declared.fixtures.FixtureCall.{FixtureCall}
use Rattle.cd_outside.specs.Counts.{Covers}
use Rattle.cd_tree.specs.declared.tree.Tree.{Tree}
use Rattle.cd_wire.specs.declared.request.Request.{Request}
use Rattle.cd_module.specs.declared.fault.LoadFault.{LoadFault}
use Rattle.cd_legal.specs.declared.plan.Plan.{Plan}
use Rattle.cd_legal.specs.declared.entry.Entry.{Entry}
use Rattle.cd_legal.specs.declared.entry.Signed.{Signed}
use Rattle.cd_legal.specs.declared.state.State.{State}
use Rattle.cd_legal.specs.declared.state.Drafted.{Drafted}
use Rattle.cd_legal.specs.Entry.{signed, entries}
use Rattle.cd_legal.specs.State.{has_number, is_live, Conf, conf_of, conf_at}
use Rattle.cd_legal.specs.Legal.{state_at}
use Rattle.cd_legal.specs.Calls.{last_of, failures}
use Rattle.cd_desk.specs.Desks.{Holds}
use Rattle.cd_desk.specs.Emptying.{IsEnded}
use Rattle.cd_life.specs.declared.board.Board.{Board}
use Rattle.cd_life.specs.Changes.{tree_at}
use Rattle.cd_life.specs.Fits.{AllFit}

-- how many of these are live
abbrev pub live_among : List Drafted → ℕ
live_among [] = 0
live_among (x ∷ xs) = cond (is_live x.life) 1 0 + live_among xs

-- it is not retired, or was published last
abbrev pub is_kept : State → ℕ → Bool
is_kept s n = not (has_number n s.retired) || (n == length s.published)

-- how many of the serials 1 to n are kept
abbrev pub kept_to : State → ℕ → ℕ
kept_to s zero = 0
kept_to s (suc n) = cond (is_kept s (suc n)) 1 0 + kept_to s n

-- how many configurations are kept
abbrev pub kept_among : State → ℕ
kept_among s = kept_to s (length s.published)

-- what was published last, or the opening configuration where nothing was
abbrev pub last_published : State → Conf
last_published s = conf_at false s.drafts (last_of s.published)

-- each configuration of the state that is not retired is kept, as is the one that was published last, and no other; and there is
-- room for each live draft to be kept too
pub record Shelves {A F B : Type 0} {g : _} (b : Board A F B g) (s : State) : Type 0 where
  pub kept : (n : ℕ) (tree : Tree) → conf_of s n ≡ Conf.Of tree → is_kept s n ≡ true → tree_at b.kept.items n ≡ Some tree
  pub most : vec_len b.kept ≤ kept_among s
  pub later : (n : ℕ) → s.serial < n → tree_at b.kept.items n ≡ None
  pub live : live_among s.drafts ≡ b.live
  pub room : vec_len b.kept + b.live ≤ vec_capacity b.kept

module _ {A F B : Type 0} {g : _} (calls : F → Option (List FixtureCall)) (faults : F → ℕ) (plan : Tree → Result Plan LoadFault) (makes : Tree → Request → Option Tree) where
  -- the desk stands for the history; each tree of it has its plan and follows by its change; its configurations are kept; and at
  -- most as many keys of it could not be opened as the faults of the fixtures rose, unless their count stands at its end
  pub record Stood (opening b : Board A F B g) (log : List Signed) : Type 0 where
    pub desk : Holds calls opening.desk b.desk log
    pub fits : AllFit plan makes (entries log)
    pub shelf : Shelves b (state_at log)
    pub covered : Covers (failures (entries log)) (faults opening.desk.fixtures) (faults b.desk.fixtures) 0

  -- what stood for a history stands afterwards for the same with this entry, whoever signs it
  abbrev pub Adds : Board A F B g → Board A F B g → Entry → Type 0
  Adds v w e = (opening : Board A F B g) (log : List Signed) (k : ℕ) → Stood opening v log → Stood opening w (log ++ signed k e ∷ [])

  -- what stood for a history stands for it still
  abbrev pub Keeps : Board A F B g → Board A F B g → Type 0
  Keeps v w = (opening : Board A F B g) (log : List Signed) → Stood opening v log → Stood opening w log

  -- the board stands for a history after which the serial is there, and not retired
  abbrev pub IsUnretired : Board A F B g → ℕ → Type 0
  IsUnretired b n = (opening : Board A F B g) × (log : List Signed) × Stood opening b log × (n ≤ (state_at log).serial) × (has_number n (state_at log).retired ≡ false)

  -- the board stands for a history after which nothing is left
  abbrev pub HasEnded : Board A F B g → Type 0
  HasEnded b = (opening : Board A F B g) × (log : List Signed) × Stood opening b log × IsEnded (state_at log)
