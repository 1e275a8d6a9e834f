-- What a decision says, without the compiled form of what is loaded.
use Rattle.std.specs.Prelude.{◌≡◌, ◌⊎◌, Result}
use Rattle.std.specs.Result.{IsOk}
use Rattle.cd_tree.specs.declared.tree.Tree.{Tree, Null}
use Rattle.cd_module.specs.declared.fault.LoadFault.{LoadFault}
use Rattle.cd_module_set.specs.declared.set.ModuleSet.{Ghosts}
use Rattle.cd_admin.specs.Deciding.{Outcome, reply, replace, halt}
use Rattle.cd_admin.specs.declared.decision.Decision.{Decision}
use Rattle.cd_admin.specs.declared.decision.Decision.TheVariants as decision

-- a tree under which requests are answered: null, where nothing is configured yet or any more, or one without a fault
abbrev pub IsServed : {P : Type 0} → (Tree → Result P LoadFault) → Tree → Type 0
IsServed verdict t = (t ≡ Null) ⊎ IsOk (verdict t)

module _ {S C : Type 0} {set : Ghosts S C} where
  -- the decision without the compiled form
  abbrev pub said : Decision S C set → Outcome
  said (decision.Reply answer) = reply answer
  said (decision.Replace loaded) = replace loaded.tree
  said decision.Halt = halt
