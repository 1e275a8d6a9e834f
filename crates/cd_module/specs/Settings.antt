-- Part of the main theorem.
-- How settings are read out of a tree: each reader gives the settings at a place, or the first fault there.
use Rattle.std.specs.Prelude.{ℕ, suc, ◌&&◌, not, if◌then◌else◌, codes, Bool, List, [], ◌∷◌, ◌++◌, Option, Some, None, Result, Ok, Err, decimal}
use Rattle.std.specs.Result.{result_map_both}
use Rattle.std.specs.Str.{bytes_eq}
use Rattle.cd_text.specs.Steps.{◌▷◌}
use Rattle.cd_tree.specs.Fields.{over, get, is_null}
use Rattle.cd_tree.specs.Path.{◌▸◌}
use Rattle.cd_tree.specs.declared.path.Path.{Path}
use Rattle.cd_tree.specs.declared.tree.Member.{Member, out-Member}
use Rattle.cd_tree.specs.declared.tree.Num.{Num}
use Rattle.cd_tree.specs.declared.tree.Tree.{Tree, out-Tree}
use Rattle.cd_tree.specs.declared.tree.Tree.TheOpen.{Tree-F}
use Rattle.cd_module.specs.Faults.{refused, of_field}
use Rattle.cd_module.specs.declared.fault.LoadFault.{LoadFault}
use Rattle.cd_module.specs.declared.fault.LoadKind.TheVariants.{WrongKind, Missing}
use Rattle.cd_module.specs.declared.unread.UnreadList.{UnreadList}
use Rattle.cd_module.specs.declared.unread.UnreadObject.{UnreadObject}
use Rattle.cd_module.specs.declared.values.NumberOrText.{NumberOrText}
use Rattle.cd_module.specs.declared.values.NumberOrText.TheVariants as either

-- the settings that a value gives, or the first fault; the path leads to the value
abbrev pub Reader : Type 0 → Type 0
Reader X = Tree → Path → Result X LoadFault

-- ---- a value

-- a text alone is a text
abbrev pub text_layer : Tree-F Tree Member → Path → Result (List ℕ) LoadFault
text_layer Tree-F.Null at = Err (refused WrongKind at)
text_layer (Tree-F.Bool b) at = Err (refused WrongKind at)
text_layer (Tree-F.Num n) at = Err (refused WrongKind at)
text_layer (Tree-F.Text t) at = Ok t
text_layer (Tree-F.Items items) at = Err (refused WrongKind at)
text_layer (Tree-F.Object members) at = Err (refused WrongKind at)

-- a text
abbrev pub text : Reader (List ℕ)
text t at = text_layer (out-Tree t) at

-- a truth value alone is a truth value
abbrev pub truth_layer : Tree-F Tree Member → Path → Result Bool LoadFault
truth_layer Tree-F.Null at = Err (refused WrongKind at)
truth_layer (Tree-F.Bool b) at = Ok b
truth_layer (Tree-F.Num n) at = Err (refused WrongKind at)
truth_layer (Tree-F.Text t) at = Err (refused WrongKind at)
truth_layer (Tree-F.Items items) at = Err (refused WrongKind at)
truth_layer (Tree-F.Object members) at = Err (refused WrongKind at)

-- a truth value
abbrev pub truth : Reader Bool
truth t at = truth_layer (out-Tree t) at

-- a number alone is a number
abbrev pub whole_layer : Tree-F Tree Member → Path → Result Num LoadFault
whole_layer Tree-F.Null at = Err (refused WrongKind at)
whole_layer (Tree-F.Bool b) at = Err (refused WrongKind at)
whole_layer (Tree-F.Num n) at = Ok n
whole_layer (Tree-F.Text t) at = Err (refused WrongKind at)
whole_layer (Tree-F.Items items) at = Err (refused WrongKind at)
whole_layer (Tree-F.Object members) at = Err (refused WrongKind at)

-- a whole number
abbrev pub whole : Reader Num
whole t at = whole_layer (out-Tree t) at

-- a number alone, or a text
abbrev pub number_or_text_layer : Tree-F Tree Member → Path → Result NumberOrText LoadFault
number_or_text_layer Tree-F.Null at = Err (refused WrongKind at)
number_or_text_layer (Tree-F.Bool b) at = Err (refused WrongKind at)
number_or_text_layer (Tree-F.Num n) at = Ok (either.Number n)
number_or_text_layer (Tree-F.Text t) at = Ok (either.Text t)
number_or_text_layer (Tree-F.Items items) at = Err (refused WrongKind at)
number_or_text_layer (Tree-F.Object members) at = Err (refused WrongKind at)

-- a number or a text
abbrev pub number_or_text : Reader NumberOrText
number_or_text t at = number_or_text_layer (out-Tree t) at

-- a list alone is a list, whatever its elements are
abbrev pub unread_list_layer : Tree-F Tree Member → Path → Result UnreadList LoadFault
unread_list_layer Tree-F.Null at = Err (refused WrongKind at)
unread_list_layer (Tree-F.Bool b) at = Err (refused WrongKind at)
unread_list_layer (Tree-F.Num n) at = Err (refused WrongKind at)
unread_list_layer (Tree-F.Text t) at = Err (refused WrongKind at)
unread_list_layer (Tree-F.Items items) at = Ok (record {})
unread_list_layer (Tree-F.Object members) at = Err (refused WrongKind at)

-- a list whose elements are not read
abbrev pub unread_list : Reader UnreadList
unread_list t at = unread_list_layer (out-Tree t) at

-- an object alone is an object, whatever its members are
abbrev pub unread_object_layer : Tree-F Tree Member → Path → Result UnreadObject LoadFault
unread_object_layer Tree-F.Null at = Err (refused WrongKind at)
unread_object_layer (Tree-F.Bool b) at = Err (refused WrongKind at)
unread_object_layer (Tree-F.Num n) at = Err (refused WrongKind at)
unread_object_layer (Tree-F.Text t) at = Err (refused WrongKind at)
unread_object_layer (Tree-F.Items items) at = Err (refused WrongKind at)
unread_object_layer (Tree-F.Object members) at = Ok (record {})

-- an object whose members are not read
abbrev pub unread_object : Reader UnreadObject
unread_object t at = unread_object_layer (out-Tree t) at

-- ---- a list

-- the elements from place n on, in order
abbrev pub each : {X : Type 0} → Reader X → ℕ → List Tree → Path → Result (List X) LoadFault
each r n [] at = Ok []
each r n (t ∷ ts) at = r t (at ▸ decimal n) ▷ λ x. each r (suc n) ts at ▷ λ xs. Ok (x ∷ xs)

-- what was read, with what was read before in front
abbrev pub ahead : {X : Type 0} → List X → Result (List X) LoadFault → Result (List X) LoadFault
ahead found (Ok xs) = Ok (found ++ xs)
ahead found (Err fault) = Err fault

-- the elements, where it is a list
abbrev pub list_layer : {X : Type 0} → Reader X → Tree-F Tree Member → Path → Result (List X) LoadFault
list_layer r Tree-F.Null at = Err (refused WrongKind at)
list_layer r (Tree-F.Bool b) at = Err (refused WrongKind at)
list_layer r (Tree-F.Num n) at = Err (refused WrongKind at)
list_layer r (Tree-F.Text t) at = Err (refused WrongKind at)
list_layer r (Tree-F.Items items) at = each r 0 items at
list_layer r (Tree-F.Object members) at = Err (refused WrongKind at)

-- a list, each element by this reader
abbrev pub list_of : {X : Type 0} → Reader X → Reader (List X)
list_of r t at = list_layer r (out-Tree t) at

-- ---- an object with fixed members

-- the members, where none but these is there
unfoldable pub members : List ℕ → Tree → Path → Result (List Member) LoadFault
members names t at = result_map_both (λ found. found) of_field (over names t at)

-- what it says, where it is there
abbrev pub where_there : {X : Type 0} → Reader X → Option Tree → Path → Result (Option X) LoadFault
where_there r None at = Ok None
where_there r (Some t) at = r t at ▷ λ x. Ok (Some x)

-- a member that may be absent or null
unfoldable pub optional : {X : Type 0} → Reader X → List ℕ → List Member → Path → Result (Option X) LoadFault
optional r name members at = where_there r (get name members) (at ▸ name)

-- what it says, and Missing where it is not there
abbrev pub must_be_there : {X : Type 0} → Reader X → Option Tree → Path → Result X LoadFault
must_be_there r None at = Err (refused Missing at)
must_be_there r (Some t) at = r t at

-- a member that may be neither
unfoldable pub needed : {X : Type 0} → Reader X → List ℕ → List Member → Path → Result X LoadFault
needed r name members at = must_be_there r (get name members) (at ▸ name)

-- the members, where it is an object
abbrev pub all_layer : Tree-F Tree Member → Path → Result (List Member) LoadFault
all_layer Tree-F.Null at = Err (refused WrongKind at)
all_layer (Tree-F.Bool b) at = Err (refused WrongKind at)
all_layer (Tree-F.Num n) at = Err (refused WrongKind at)
all_layer (Tree-F.Text t) at = Err (refused WrongKind at)
all_layer (Tree-F.Items items) at = Err (refused WrongKind at)
all_layer (Tree-F.Object members) at = Ok members

-- the member that names a module, which is read before anything else of its object
unfoldable pub name_of : List ℕ → Reader (List ℕ)
name_of name t at = all_layer (out-Tree t) at ▷ λ ms. needed text name ms at

-- ---- an object by name

-- the id of an object is no part of its settings
abbrev pub is_no_id : Member → Bool
is_no_id m = not (bytes_eq (out-Member m).key (codes "@id"))

-- and a null member counts as absent
abbrev pub is_setting : Member → Bool
is_setting m = not (is_null (out-Member m).value) && is_no_id m

-- the members by rising name, each read by a reader that knows the name
abbrev pub each_member : {X : Type 0} → (Member → Bool) → (List ℕ → Reader X) → List Member → Path → Result (List X) LoadFault
each_member counts r [] at = Ok []
each_member counts r (m ∷ ms) at =
    if counts m then (r (out-Member m).key (out-Member m).value (at ▸ (out-Member m).key) ▷ λ x. each_member counts r ms at ▷ λ xs. Ok (x ∷ xs))
    else each_member counts r ms at

-- the members that count, where it is an object
abbrev pub object_layer : {X : Type 0} → (Member → Bool) → (List ℕ → Reader X) → Tree-F Tree Member → Path → Result (List X) LoadFault
object_layer counts r Tree-F.Null at = Err (refused WrongKind at)
object_layer counts r (Tree-F.Bool b) at = Err (refused WrongKind at)
object_layer counts r (Tree-F.Num n) at = Err (refused WrongKind at)
object_layer counts r (Tree-F.Text t) at = Err (refused WrongKind at)
object_layer counts r (Tree-F.Items items) at = Err (refused WrongKind at)
object_layer counts r (Tree-F.Object members) at = each_member counts r members at

-- an object by name: each member that is a setting by a reader that knows its name
abbrev pub object_of : {X : Type 0} → (List ℕ → Reader X) → Reader (List X)
object_of r t at = object_layer is_setting r (out-Tree t) at

-- the same where null has a meaning
abbrev pub object_with_nulls : {X : Type 0} → (List ℕ → Reader X) → Reader (List X)
object_with_nulls r t at = object_layer is_no_id r (out-Tree t) at
