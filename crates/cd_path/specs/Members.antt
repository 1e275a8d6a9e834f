-- Part of the main theorem.
-- The members of an object with another value at one key.
use Rattle.std.specs.Prelude.{ℕ, Bool, List, [], ◌∷◌, ◌++◌, filter, Option, Some, None}
use Rattle.std.specs.Ordering.{nat_cmp, is_lt, is_gt}
use Rattle.std.specs.Cmp.Lexicographic.{slice_cmp}
use Rattle.cd_tree.specs.declared.tree.Member.{Member, out-Member, roll-Member}
use Rattle.cd_tree.specs.declared.tree.Tree.{Tree}

-- the member's key is below the other
abbrev pub is_before : List ℕ → Member → Bool
is_before key member = is_lt (slice_cmp nat_cmp (out-Member member).key key)

-- the member's key is above the other
abbrev pub is_after : List ℕ → Member → Bool
is_after key member = is_gt (slice_cmp nat_cmp (out-Member member).key key)

-- the member of a value, if there is one
abbrev pub member_of : List ℕ → Option Tree → List Member
member_of key None = []
member_of key (Some value) = roll-Member (record { key = key; value = value }) ∷ []

-- the members below the key, the one with this value, if any, and those above it
abbrev pub with_member : List ℕ → Option Tree → List Member → List Member
with_member key value members = filter (is_before key) members ++ (member_of key value ++ filter (is_after key) members)
