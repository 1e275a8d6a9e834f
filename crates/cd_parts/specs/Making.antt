-- Parts of trees, for the clauses of private functions.
use Rattle.std.specs.Prelude.{ℕ, if◌then◌else◌, List, [], ◌∷◌, ◌++◌, Option, Some, unwrap_or}
use Rattle.std.specs.List.{list_any, before_first, after_first}
use Rattle.cd_tree.specs.declared.tree.Member.{Member, roll-Member}
use Rattle.cd_caddyfile.specs.Matchers.{with_line, with_value, is_equals}
use Rattle.cd_caddyfile.specs.Shape.{Entry, member, text_list}
use Rattle.cd_caddyfile.specs.Sites.{Tests, Wanted}

-- an entry as a member of a tree
abbrev pub rolled : Entry → Member
rolled e = roll-Member (record { key = e.key; value = e.value })

-- a name and its values
abbrev pub wanted_entry : Wanted → Entry
wanted_entry w = member w.name (text_list w.values)

-- the tests with those of a line, where it is one
abbrev pub and_line : Tests → List (List ℕ) → Tests
and_line t words = unwrap_or (with_line t words) t

-- ---- what a line adds, part by part

abbrev pub args_after : Option (List (List ℕ)) → List (List ℕ) → Option (List (List ℕ))
args_after before [] = before
args_after before (arg ∷ args) = Some (unwrap_or before [] ++ arg ∷ args)

abbrev pub fields_after : List Wanted → List (List ℕ) → List Wanted
fields_after all [] = all
fields_after all (name ∷ []) = all
fields_after all (name ∷ value ∷ []) = with_value name value all
fields_after all (name ∷ value ∷ other ∷ others) = all

abbrev pub keys_after : List Wanted → List (List ℕ) → List Wanted
keys_after all [] = all
keys_after all (pair ∷ []) = if list_any is_equals pair then with_value (before_first is_equals pair) (after_first is_equals pair) all else all
keys_after all (pair ∷ other ∷ others) = all
