-- A reading as a tree in which numbers that are not whole in range are marked, for the clauses of private functions.
use Rattle.std.specs.Prelude.{◌≡◌, ℕ, pos, Bool, true, ◌&&◌, ◌==◌, not, List, [], ◌∷◌, length, map, Some, Ok, String, string_bytes}
use Rattle.std.specs.List.{list_all}
use Rattle.std.specs.declared.alloc.Global.{Global}
use Rattle.json.specs.Json as raw
use Rattle.json.specs.Token.{Token}
use Rattle.serde_json.specs.Data as json
use Rattle.serde_json.specs.Read.{read, of_json, of_items, of_members, converted}
use Rattle.cd_tree.specs.Reading.{num_of, json_reading}
use Rattle.cd_tree.specs.declared.tree.Member.{Member, out-Member, roll-Member}
use Rattle.cd_tree.specs.declared.tree.Num.{Num}
use Rattle.cd_tree.specs.declared.tree.Tree as tree
use Rattle.cd_tree.specs.declared.tree.Tree.{Tree, fold-Tree}
use Rattle.cd_tree.specs.declared.tree.Tree.TheOpen.{Tree-F}

-- ---- marks

-- a negative zero, which is no whole number's
abbrev pub mark : Num
mark = record { negative = true; size = 0 }

-- a number that is not whole in range is marked
abbrev pub marked_number : json.Num → Num
marked_number (json.unsigned n) = num_of (pos n)
marked_number (json.negative z) = num_of z
marked_number (json.float x) = mark

-- kind by kind
abbrev mutual
  pub marked : json.Data → Tree
  marked json.null = tree.Null
  marked (json.boolean b) = tree.Bool b
  marked (json.number n) = tree.Num (marked_number n)
  marked (json.string s) = tree.Text s
  marked (json.array ds) = tree.Items (marked_items ds)
  marked (json.object ds) = tree.Object (marked_members ds)

  pub marked_items : json.Items → List Tree
  marked_items json.no_items = []
  marked_items (json.item d ds) = marked d ∷ marked_items ds

  pub marked_members : json.Members → List Member
  marked_members json.no_members = []
  marked_members (json.member k d ds) = roll-Member (record { key = k; value = marked d }) ∷ marked_members ds

-- ---- trees without marks

abbrev pub is_marked : Num → Bool
is_marked n = n.negative && (n.size == 0)

-- one level, with a word for each value inside that has no marked number
abbrev pub whole_step : Tree-F Bool Bool → Bool
whole_step Tree-F.Null = true
whole_step (Tree-F.Bool b) = true
whole_step (Tree-F.Num n) = not (is_marked n)
whole_step (Tree-F.Text t) = true
whole_step (Tree-F.Items all) = list_all (λ b. b) all
whole_step (Tree-F.Object all) = list_all (λ b. b) all

-- no number is marked
abbrev pub is_whole : Tree → Bool
is_whole = fold-Tree Bool Bool whole_step (λ member. member.value)

abbrev pub member_whole : Member → Bool
member_whole member = is_whole (out-Member member).value

-- ---- what tokens begin with

-- a value that reads as this tree, and then these tokens
pub record BeginsTree (depth : ℕ) (old new : List Token) (t : Tree) : Type 0 where
  pub reading : json.Data
  pub begins : converted of_json (raw.value depth old) ≡ Some (reading, new)
  pub shows : marked reading ≡ t

-- the same of the items of a list, up to its end
pub record BeginsItems (depth : ℕ) (old new : List Token) (trees : List Tree) : Type 0 where
  pub readings : json.Items
  pub begins : converted of_items (raw.items (raw.value depth) (length old) old) ≡ Some (readings, new)
  pub shows : marked_items readings ≡ trees

-- the same of the members of an object
pub record BeginsMembers (depth : ℕ) (old new : List Token) (found : List Member) : Type 0 where
  pub readings : json.Members
  pub begins : converted (λ ms. of_members ms json.no_members) (raw.members (raw.value depth) (length old) old) ≡ Some (readings, new)
  pub shows : marked_members readings ≡ found

-- entries of a map as members
abbrev pub members_in : List (String Global × Tree) → List Member
members_in entries = map (λ entry. roll-Member (record { key = string_bytes entry.0; value = entry.1 })) entries

-- ---- texts

-- all of a text reads as this tree
pub record IsTextOf (text : List ℕ) (t : Tree) : Type 0 where
  pub reading : json.Data
  pub reads : read text ≡ Some reading
  pub shows : marked reading ≡ t

-- bytes that are UTF-8 and read as this tree
pub record AreBytesOf (bytes : List ℕ) (t : Tree) : Type 0 where
  pub reading : json.Data
  pub reads : json_reading bytes ≡ Ok reading
  pub shows : marked reading ≡ t
