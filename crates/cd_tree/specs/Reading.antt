-- Part of the main theorem.
-- Which tree a text is, or why it is none.
use Rattle.std.specs.Prelude.{ℕ, suc, ℤ, pos, negsuc, List, [], ◌∷◌, length, true, false, not, nat_lt, Result, Ok, Err}
use Rattle.std.specs.Str.{is_utf8}
use Rattle.serde_json.specs.Data as json
use Rattle.serde_json.specs.Read.{read}
use Rattle.cd_text.specs.Steps.{◌▷◌, refused_where, some_or}
use Rattle.cd_tree.specs.Tree.{text}
use Rattle.cd_tree.specs.declared.fault.TreeFault.{TreeFault}
use Rattle.cd_tree.specs.declared.fault.TreeFault.TheVariants.{NotJson, FractionOrRange, TooDeep, TooLong}
use Rattle.cd_tree.specs.declared.limits.TheConstants.{MAX_DEPTH, MAX_TEXT_BYTES}
use Rattle.cd_tree.specs.declared.tree.Member.{Member, roll-Member}
use Rattle.cd_tree.specs.declared.tree.Num.{Num}
use Rattle.cd_tree.specs.declared.tree.Tree as tree
use Rattle.cd_tree.specs.declared.tree.Tree.{Tree}

-- ---- a reading as a tree

-- a whole number by its sign and its size
abbrev pub num_of : ℤ → Num
num_of (pos n) = record { negative = false; size = n }
num_of (negsuc n) = record { negative = true; size = suc n }

-- a number that is not whole in range reads as a float, and so does `-0`
abbrev pub of_number : json.Num → Result Num TreeFault
of_number (json.unsigned n) = Ok (num_of (pos n))
of_number (json.negative z) = Ok (num_of z)
of_number (json.float x) = Err FractionOrRange

-- kind by kind
abbrev mutual
  pub of_reading : json.Data → Result Tree TreeFault
  of_reading json.null = Ok tree.Null
  of_reading (json.boolean b) = Ok (tree.Bool b)
  of_reading (json.number n) = of_number n ▷ λ number. Ok (tree.Num number)
  of_reading (json.string s) = Ok (tree.Text s)
  of_reading (json.array ds) = of_items ds ▷ λ items. Ok (tree.Items items)
  of_reading (json.object ds) = of_members ds ▷ λ members. Ok (tree.Object members)

  pub of_items : json.Items → Result (List Tree) TreeFault
  of_items json.no_items = Ok []
  of_items (json.item d ds) = of_reading d ▷ λ first. of_items ds ▷ λ rest. Ok (first ∷ rest)

  pub of_members : json.Members → Result (List Member) TreeFault
  of_members json.no_members = Ok []
  of_members (json.member k d ds) = of_reading d ▷ λ value. of_members ds ▷ λ rest. Ok (roll-Member (record { key = k; value = value }) ∷ rest)

-- ---- a text as a tree

-- JSON is UTF-8, and its grammar gives it one reading, where the last member of a name counts
abbrev pub json_reading : List ℕ → Result json.Data TreeFault
json_reading bytes = refused_where (not (is_utf8 bytes)) NotJson ▷ λ _. some_or NotJson (read bytes)

-- the tree of a text, or the first fault that holds
unfoldable pub tree_of : List ℕ → Result Tree TreeFault
tree_of bytes =
    refused_where (nat_lt MAX_TEXT_BYTES (length bytes)) TooLong ▷ λ _.
    json_reading bytes ▷ λ reading.
    refused_where (nat_lt MAX_DEPTH (json.depth reading)) TooDeep ▷ λ _.
    of_reading reading ▷ λ t.
    refused_where (nat_lt MAX_TEXT_BYTES (length (text t))) TooLong ▷ λ _.
    Ok t
