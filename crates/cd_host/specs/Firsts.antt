-- Part of the main theorem.
-- The first configuration of a run has the tree that the run was given.
use Rattle.std.specs.Prelude.{◌≡◌, zero, List, [], ◌∷◌, slice_get}
use Rattle.cd_tree.specs.declared.tree.Tree.{Tree}
use Rattle.cd_legal.specs.declared.entry.Entry.{Entry}
use Rattle.cd_legal.specs.declared.entry.Entry.TheVariants.{Publish}
use Rattle.cd_legal.specs.declared.state.State.{State}
use Rattle.cd_legal.specs.State.{opening_state, Conf, conf_in}
use Rattle.cd_legal.specs.Legal.{after}

-- what is published from serial 0 is this tree
abbrev pub IsFirst : Tree → State → Entry → Type 0
IsFirst first s (Publish d n zero way) = conf_in (slice_get s.drafts d) ≡ Conf.Of first
IsFirst first s e = Unit {0}

-- so for each of the entries that follow a state
abbrev pub AreFirst : Tree → State → List Entry → Type 0
AreFirst first s [] = Unit {0}
AreFirst first s (e ∷ es) = IsFirst first s e × AreFirst first (after s e) es

-- so for each entry of a history
abbrev pub BeginsWith : Tree → List Entry → Type 0
BeginsWith first log = AreFirst first opening_state log
