-- Part of the main theorem.
-- What the bytes of a configuration come to, by what a set of modules finds in trees.
use Rattle.std.specs.Prelude.{ℕ, List, [], codes, Result, Ok, Err}
use Rattle.cd_text.specs.Steps.{◌▷◌}
use Rattle.cd_tree.specs.declared.fault.TreeFault.{TreeFault}
use Rattle.cd_tree.specs.declared.fault.TreeFault.TheVariants as fault
use Rattle.cd_tree.specs.declared.tree.Tree.{Tree}
use Rattle.cd_tree.specs.Reading.{tree_of}
use Rattle.cd_legal.specs.declared.plan.Plan.{Plan}
use Rattle.cd_module.specs.declared.fault.LoadFault.{LoadFault}
use Rattle.cd_module.specs.declared.fault.LoadFault.TheVariants as load
use Rattle.cd_module.specs.Words.{words}
use Rattle.cd_program.specs.declared.refusal.Refusal.{Refusal}
use Rattle.cd_program.specs.declared.refusal.Refusal.TheVariants.{NoTree, Faulty, NoMemory}

abbrev pub no_tree : {A : Type 0} → Result A TreeFault → Result A Refusal
no_tree (Ok value) = Ok value
no_tree (Err fault) = Err (NoTree fault)

-- the tree, where a plan of it is found
abbrev pub if_planned : Tree → Result Plan LoadFault → Result Tree Refusal
if_planned tree (Ok plan) = Ok tree
if_planned tree (Err (load.Refused fault)) = Err (Faulty fault)
if_planned tree (Err load.NoMemory) = Err NoMemory

-- the tree of the configuration of these bytes, or why they are refused
unfoldable pub configured : (Tree → Result Plan LoadFault) → List ℕ → Result Tree Refusal
configured plan bytes = no_tree (tree_of bytes) ▷ λ tree. if_planned tree (plan tree)

-- the words of a refusal
abbrev pub fault_words : TreeFault → List ℕ
fault_words fault.NotJson = codes "not JSON"
fault_words fault.FractionOrRange = codes "number is not a whole number in range"
fault_words fault.TooDeep = codes "nested too deeply"
fault_words fault.TooLong = codes "too long"
fault_words fault.NoMemory = []

abbrev pub words_of : Refusal → List ℕ
words_of (NoTree fault) = fault_words fault
words_of (Faulty fault) = words fault
words_of NoMemory = []
