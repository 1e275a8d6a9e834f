-- Changes that are alike fit the same histories.
use Rattle.std.proofs.Common.{◌≡◌, List, [], ◌∷◌, slice_get, Option, Some, None, Result, sym, ◌∙◌}
use Rattle.std.specs.Prelude.{IfSome}
use Rattle.cd_tree.specs.declared.tree.Tree.{Tree}
use Rattle.cd_wire.specs.declared.request.Request.{Request}
use Rattle.cd_module.specs.declared.fault.LoadFault.{LoadFault}
use Rattle.cd_legal.specs.declared.plan.Plan.{Plan}
use Rattle.cd_legal.specs.declared.entry.Change.{Change}
use Rattle.cd_legal.specs.declared.entry.Change.TheVariants as change
use Rattle.cd_legal.specs.declared.entry.Entry.{Entry}
use Rattle.cd_legal.specs.declared.entry.Entry.TheVariants.{Publish}
use Rattle.cd_legal.specs.declared.state.State.{State}
use Rattle.cd_legal.specs.declared.state.Drafted.{Drafted}
use Rattle.cd_legal.specs.Legal.{after}
use Rattle.cd_legal.specs.State.{Conf, conf_of, opening_state}
use Rattle.cd_life.specs.Fits.{Suits, Fits, FitFrom, AllFit}

module _ (plan : Tree → Result Plan LoadFault) (makes other : Tree → Request → Option Tree) (same : (tree : Tree) (request : Request) → makes tree request ≡ other tree request) where
  suits-alike : (conf : Conf) (way : Change) (tree : Tree) → Suits makes conf way tree → Suits other conf way tree
  suits-alike Conf.Opening change.First tree is = is
  suits-alike Conf.Opening (change.Request q) tree is = is
  suits-alike Conf.Halted change.First tree is = is
  suits-alike Conf.Halted (change.Request q) tree is = is
  suits-alike (Conf.Of before) change.First tree is = is
  suits-alike (Conf.Of before) (change.Request q) tree is = sym (same before q) ∙ is

  publish-alike : (o : Option Drafted) (conf : Conf) (way : Change) → IfSome o (λ x. Suits makes conf way x.tree) → IfSome o (λ x. Suits other conf way x.tree)
  publish-alike None conf way is = is
  publish-alike (Some x) conf way is = suits-alike conf way x.tree is

  fits-alike : (s : State) (e : Entry) → Fits plan makes s e → Fits plan other s e
  fits-alike s (Publish d n from way) is = publish-alike (slice_get s.drafts d) (conf_of s from) way is
  fits-alike s e is = is

  from-alike : (s : State) (log : List Entry) → FitFrom plan makes s log → FitFrom plan other s log
  from-alike s [] all = tt
  from-alike s (e ∷ es) all = (fits-alike s e all.0, from-alike (after s e) es all.1)

pub all-alike : (plan : Tree → Result Plan LoadFault) (makes other : Tree → Request → Option Tree) (log : List Entry) → ((tree : Tree) (request : Request) → makes tree request ≡ other tree request)
    → AllFit plan makes log → AllFit plan other log
all-alike plan makes other log same all = from-alike plan makes other same opening_state log all
