-- Part of the main theorem.
-- The tree that an edit makes.
use Rattle.std.specs.Prelude.{ℕ, suc, ◌&&◌, not, nat_lt, Bool, true, false, if◌then◌else◌, List, [], ◌∷◌, ◌++◌, length, slice_index_or, slice_set, insert, remove, Option, Some, None, is_none, unwrap_or, option_and_then, Result, Ok, Err}
use Rattle.std.specs.Str.{bytes_eq}
use Rattle.cd_text.specs.Steps.{◌▷◌, refused_where}
use Rattle.cd_tree.specs.Fields.{unless_null}
use Rattle.cd_tree.specs.Tree.{depth, text}
use Rattle.cd_tree.specs.declared.limits.TheConstants.{MAX_DEPTH, MAX_TEXT_BYTES}
use Rattle.cd_tree.specs.declared.path.Path.{Path}
use Rattle.cd_tree.specs.declared.tree.Member.{Member}
use Rattle.cd_tree.specs.declared.tree.Tree.{Tree, Null, Items, Object, out-Tree}
use Rattle.cd_tree.specs.declared.tree.Tree.TheOpen.{Tree-F}
use Rattle.cd_path.specs.Looking.{member_at, or_null, ellipsis, ends_in_ellipsis}
use Rattle.cd_path.specs.Members.{with_member}
use Rattle.cd_path.specs.Position.{place}
use Rattle.cd_path.specs.declared.fault.EditFault.{EditFault}
use Rattle.cd_path.specs.declared.fault.EditFault.TheVariants.{NoSuchKey, KeyExists, NotTraversable, NotAList, BodyNotList, PositionPost, BodyMissing, EllipsisVerb, ResultTooDeep, ResultTooLong}
use Rattle.cd_path.specs.declared.verb.Verb.{Verb}
use Rattle.cd_path.specs.declared.verb.Verb.TheVariants.{Post, Put, Patch, Delete}

-- ---- the last part

-- a list gets the body appended, and any other value is replaced
abbrev pub posted : Tree → Tree-F Tree Member → Tree
posted body (Tree-F.Items items) = Items (items ++ body ∷ [])
posted body _ = body

-- what a key has afterwards, from what it has
abbrev pub key_edit : Verb → Tree → Option Tree → Result (Option Tree) EditFault
key_edit Post body (Some old) = Ok (Some (posted body (out-Tree old)))
key_edit Put body (Some old) = Err KeyExists
key_edit Patch body (Some old) = Ok (Some body)
key_edit Delete body (Some old) = Ok None
key_edit Post body None = Ok (Some body)
key_edit Put body None = Ok (Some body)
key_edit Patch body None = Err NoSuchKey
key_edit Delete body None = Err NoSuchKey

-- positions are below the length, and for PUT below one more
abbrev pub bound : Verb → List Tree → ℕ
bound Put items = suc (length items)
bound _ items = length items

-- the elements afterwards, for a position that is below the bound
abbrev pub position_edit : Verb → Tree → List Tree → ℕ → Result (List Tree) EditFault
position_edit Post body items n = Err PositionPost
position_edit Put body items n = Ok (insert items n body)
position_edit Patch body items n = Ok (slice_set items n body)
position_edit Delete body items n = Ok (remove items n)

-- a key of an object, or a position of a list
abbrev pub last_edit : Verb → Tree → List ℕ → Tree-F Tree Member → Result Tree EditFault
last_edit verb body part (Tree-F.Object members) = key_edit verb body (member_at part members) ▷ λ value. Ok (Object (with_member part value members))
last_edit verb body part (Tree-F.Items items) = place (bound verb items) part ▷ λ n. position_edit verb body items n ▷ λ made. Ok (Items made)
last_edit verb body part _ = Err NotTraversable

-- the elements with those of a body that is a list behind them
abbrev pub all_posted : List Tree → Tree-F Tree Member → Result Tree EditFault
all_posted items (Tree-F.Items more) = Ok (Items (items ++ more))
all_posted items _ = Err BodyNotList

-- `...` names the end of a list
abbrev pub ellipsis_edit : Tree → Tree-F Tree Member → Result Tree EditFault
ellipsis_edit body (Tree-F.Items items) = all_posted items (out-Tree body)
ellipsis_edit body _ = Err NotAList

-- at the empty path the tree is edited as a key is: null counts as absent, and a removal leaves null
abbrev pub root_edit : Verb → Tree → Tree → Result Tree EditFault
root_edit verb body t = key_edit verb body (unless_null t) ▷ λ value. Ok (or_null value)

-- ---- the parts on the way

-- the value of a key: an absent one counts as null, and PUT takes an empty object for either
abbrev pub entered : Verb → Option Tree → Tree
entered Put value = unwrap_or (option_and_then unless_null value) (Object [])
entered _ value = or_null value

-- the value that a part names is replaced by its own edit
abbrev pub way_edit : Verb → (Tree → Result Tree EditFault) → List ℕ → Tree-F Tree Member → Result Tree EditFault
way_edit verb edit_below part (Tree-F.Object members) = edit_below (entered verb (member_at part members)) ▷ λ made. Ok (Object (with_member part (Some made) members))
way_edit verb edit_below part (Tree-F.Items items) = place (length items) part ▷ λ n. edit_below (slice_index_or items n Null) ▷ λ made. Ok (Items (slice_set items n made))
way_edit verb edit_below part _ = Err NotTraversable

-- ---- the whole

-- the edit at the parts, whatever the size of the result
abbrev pub change : Verb → Tree → List (List ℕ) → Tree → Result Tree EditFault
change verb body [] t = root_edit verb body t
change verb body (part ∷ []) t = if bytes_eq part ellipsis then ellipsis_edit body (out-Tree t) else last_edit verb body part (out-Tree t)
change verb body (part ∷ next ∷ rest) t = way_edit verb (change verb body (next ∷ rest)) part (out-Tree t)

abbrev pub is_post : Verb → Bool
is_post Post = true
is_post _ = false

abbrev pub is_delete : Verb → Bool
is_delete Delete = true
is_delete _ = false

-- the tree, if it is neither too deep nor too long
abbrev pub within_limits : Tree → Result Tree EditFault
within_limits made =
    refused_where (nat_lt MAX_DEPTH (depth made)) ResultTooDeep ▷ λ _.
    refused_where (nat_lt MAX_TEXT_BYTES (length (text made))) ResultTooLong ▷ λ _.
    Ok made

-- the tree that the edit makes, or the first refusal
abbrev pub edit : Tree → Verb → Path → Option Tree → Result Tree EditFault
edit t verb path body =
    refused_where (ends_in_ellipsis path.parts && not (is_post verb)) EllipsisVerb ▷ λ _.
    refused_where (is_none body && not (is_delete verb)) BodyMissing ▷ λ _.
    change verb (or_null body) path.parts t ▷ λ made.
    within_limits made
