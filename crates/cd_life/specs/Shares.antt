-- Which configuration a share is of.
use Rattle.std.specs.Arc.{arc_value}
use Rattle.cd_tree.specs.declared.tree.Tree.{Tree}
use Rattle.cd_legal.specs.State.{Conf}
use Rattle.cd_life.specs.declared.shares.Share.{Share}
use Rattle.cd_life.specs.declared.shares.Share.TheVariants.{Opening, Halted, Running}

-- its tree
abbrev pub tree_in : {A B : Type 0} {g : _} → Share A B g → Tree
tree_in (Opening nothing) = (arc_value nothing).tree
tree_in (Halted nothing) = (arc_value nothing).tree
tree_in (Running loaded) = (arc_value loaded).tree

-- which one it is
abbrev pub conf_in : {A B : Type 0} {g : _} → Share A B g → Conf
conf_in (Opening nothing) = Conf.Opening
conf_in (Halted nothing) = Conf.Halted
conf_in (Running loaded) = Conf.Of (arc_value loaded).tree

-- its compiled form
abbrev pub compiled_in : {A B : Type 0} {g : _} → Share A B g → B
compiled_in (Opening nothing) = (arc_value nothing).compiled
compiled_in (Halted nothing) = (arc_value nothing).compiled
compiled_in (Running loaded) = (arc_value loaded).compiled
