-- Part of the main theorem.
-- The changes by which configurations come, and which histories are of such changes alone.
use Rattle.std.specs.Prelude.{◌≡◌, List, [], ◌∷◌, slice_get, IfSome, Option, Some, Result, Ok}
use Rattle.cd_tree.specs.declared.tree.Tree.{Tree}
use Rattle.cd_wire.specs.declared.request.Request.{Request}
use Rattle.cd_module.specs.declared.fault.LoadFault.{LoadFault}
use Rattle.cd_legal.specs.declared.plan.Plan.{Plan}
use Rattle.cd_legal.specs.declared.entry.Change.{Change}
use Rattle.cd_legal.specs.declared.entry.Change.TheVariants as change
use Rattle.cd_legal.specs.declared.entry.Entry.{Entry}
use Rattle.cd_legal.specs.declared.entry.Entry.TheVariants.{Draft, Publish}
use Rattle.cd_legal.specs.declared.state.State.{State}
use Rattle.cd_legal.specs.State.{opening_state, Conf, conf_of}
use Rattle.cd_legal.specs.Legal.{after}

-- a tree follows a configuration by a change: the first one comes by no request, each other one is what its request makes of
-- the tree before, and after the halt none follows
abbrev pub Suits : (Tree → Request → Option Tree) → Conf → Change → Tree → Type 0
Suits makes Conf.Opening change.First tree = Unit {0}
Suits makes Conf.Opening (change.Request request) tree = ⊥
Suits makes Conf.Halted way tree = ⊥
Suits makes (Conf.Of before) change.First tree = ⊥
Suits makes (Conf.Of before) (change.Request request) tree = makes before request ≡ Some tree

module _ (plan : Tree → Result Plan LoadFault) (makes : Tree → Request → Option Tree) where
  -- the tree of a Draft has no fault, and its plan; the tree that a Publish publishes follows the one before by its change
  abbrev pub Fits : State → Entry → Type 0
  Fits s (Draft d tree planned) = plan tree ≡ Ok planned
  Fits s (Publish d n from way) = IfSome (slice_get s.drafts d) (λ x. Suits makes (conf_of s from) way x.tree)
  Fits s e = Unit {0}

  -- so each of the entries that follow a state
  abbrev pub FitFrom : State → List Entry → Type 0
  FitFrom s [] = Unit {0}
  FitFrom s (e ∷ es) = Fits s e × FitFrom (after s e) es

  -- so each entry of a history
  abbrev pub AllFit : List Entry → Type 0
  AllFit log = FitFrom opening_state log
