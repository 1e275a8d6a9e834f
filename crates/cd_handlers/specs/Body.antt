-- Part of the main theorem.
-- Which bodies are JSON.
use Rattle.std.specs.Prelude.{ℕ, ◌==◌, ◌||◌, not, Bool, true, false, List, Result, Ok, Err}
use Rattle.json.specs.Word.{is_space}
use Rattle.cd_tree.specs.Reading.{tree_of}
use Rattle.cd_tree.specs.declared.fault.TreeFault.{TreeFault}
use Rattle.cd_tree.specs.declared.tree.Member.{Member}
use Rattle.cd_tree.specs.declared.tree.Tree.{Tree, out-Tree}
use Rattle.cd_tree.specs.declared.tree.Tree.TheOpen.{Tree-F}

-- a list or an object
abbrev pub nests : Tree-F Tree Member → Bool
nests Tree-F.Null = false
nests (Tree-F.Bool b) = false
nests (Tree-F.Num n) = false
nests (Tree-F.Text t) = false
nests (Tree-F.Items items) = true
nests (Tree-F.Object members) = true

-- what is no tree counts as text, whatever its fault is
abbrev pub nests_if_tree : Result Tree TreeFault → Bool
nests_if_tree (Ok t) = nests (out-Tree t)
nests_if_tree (Err fault) = false

-- a body of a list or an object is JSON
abbrev pub is_json : List ℕ → Bool
is_json body = nests_if_tree (tree_of body)

-- a byte that neither opens a list or an object in JSON nor may stand in front of one (RFC 8259, section 2)
abbrev pub starts_plain : ℕ → Bool
starts_plain byte = not (byte == 123 || (byte == 91 || is_space byte))
