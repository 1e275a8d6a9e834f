-- Part of the main theorem.
-- Trees: how deep they nest, their text, and which are sound.
use Rattle.std.specs.Prelude.{ℕ, suc, max, Bool, true, ◌&&◌, List, [], ◌∷◌, ◌++◌, length, decimal, nat_le, nat_lt, if◌then◌else◌, IsTrue, ◌^◌}
use Rattle.std.specs.Ordering.{nat_cmp, is_lt}
use Rattle.std.specs.Cmp.Lexicographic.{slice_cmp}
use Rattle.std.specs.List.{list_all}
use Rattle.json.specs.Print.{print}
use Rattle.json.specs.Token as token
use Rattle.json.specs.Token.{Token}
use Rattle.cd_text.specs.Steps.{joined}
use Rattle.cd_tree.specs.declared.limits.TheConstants.{MAX_DEPTH, MAX_TEXT_BYTES}
use Rattle.cd_tree.specs.declared.tree.Num.{Num}
use Rattle.cd_tree.specs.declared.tree.Member.{Member, out-Member}
use Rattle.cd_tree.specs.declared.tree.Tree.{Tree, fold-Tree}
use Rattle.cd_tree.specs.declared.tree.Tree.TheOpen.{Tree-F}

-- ---- depth

-- the largest of the numbers, or 0
abbrev pub largest : List ℕ → ℕ
largest [] = 0
largest (n ∷ ns) = max n (largest ns)

-- one level, with the depth of each value inside in its place: a list or an object nests one deeper than its deepest value
abbrev pub depth_step : Tree-F ℕ ℕ → ℕ
depth_step Tree-F.Null = 0
depth_step (Tree-F.Bool b) = 0
depth_step (Tree-F.Num n) = 0
depth_step (Tree-F.Text t) = 0
depth_step (Tree-F.Items depths) = suc (largest depths)
depth_step (Tree-F.Object depths) = suc (largest depths)

-- how deep lists and objects nest
abbrev pub depth : Tree → ℕ
depth = fold-Tree ℕ ℕ depth_step (λ member. member.value)

-- how deep a member's value nests
abbrev pub member_depth : Member → ℕ
member_depth member = depth (out-Member member).value

-- ---- text

-- a sign where the number is below zero, and the size in decimal
abbrev pub number_text : Num → List ℕ
number_text n = if n.negative then 45 ∷ decimal n.size else decimal n.size

-- one level, with the tokens of each value inside in its place
abbrev pub tokens_step : Tree-F (List Token) (List Token) → List Token
tokens_step Tree-F.Null = token.null ∷ []
tokens_step (Tree-F.Bool b) = token.boolean b ∷ []
tokens_step (Tree-F.Num n) = token.number (number_text n) ∷ []
tokens_step (Tree-F.Text t) = token.string t ∷ []
tokens_step (Tree-F.Items all) = token.begin_array ∷ (joined all ++ token.end_array ∷ [])
tokens_step (Tree-F.Object all) = token.begin_object ∷ (joined all ++ token.end_object ∷ [])

-- the tree as JSON tokens, members in their order
abbrev pub tokens : Tree → List Token
tokens = fold-Tree (List Token) (List Token) tokens_step (λ member. token.key member.key ∷ member.value)

-- a member's key and its value as JSON tokens
abbrev pub member_tokens : Member → List Token
member_tokens member = token.key (out-Member member).key ∷ tokens (out-Member member).value

-- the compact text: the tokens with no space, and the shortest escapes
abbrev pub text : Tree → List ℕ
text t = print (tokens t)

-- ---- soundness

-- in byte order, and not equal
abbrev pub is_below : List ℕ → List ℕ → Bool
is_below low high = is_lt (slice_cmp nat_cmp low high)

-- each key is below those after it
abbrev pub keys_rise : List (List ℕ × Bool) → Bool
keys_rise [] = true
keys_rise (m ∷ ms) = list_all (λ later. is_below m.0 later.0) ms && keys_rise ms

-- each member is marked
abbrev pub are_ordered : List (List ℕ × Bool) → Bool
are_ordered = list_all (λ m. m.1)

-- from -2^63 to 2^64 - 1, and zero is not negative
abbrev pub is_number : Num → Bool
is_number n = if n.negative then nat_lt 0 n.size && nat_le n.size (2 ^ 63) else nat_lt n.size (2 ^ 64)

-- one level, with a mark for each value inside that is ordered
abbrev pub ordered_step : Tree-F Bool (List ℕ × Bool) → Bool
ordered_step Tree-F.Null = true
ordered_step (Tree-F.Bool b) = true
ordered_step (Tree-F.Num n) = is_number n
ordered_step (Tree-F.Text t) = true
ordered_step (Tree-F.Items all) = list_all (λ b. b) all
ordered_step (Tree-F.Object members) = keys_rise members && are_ordered members

-- keys rise in each object, and each number is in range
abbrev pub is_ordered : Tree → Bool
is_ordered = fold-Tree Bool (List ℕ × Bool) ordered_step (λ member. (member.key, member.value))

-- a member's key, and whether its value is ordered
abbrev pub ordered_member : Member → List ℕ × Bool
ordered_member member = ((out-Member member).key, is_ordered (out-Member member).value)

-- ordered, and within the limits of nesting and of compact text
abbrev pub is_sound : Tree → Bool
is_sound t = is_ordered t && (nat_le (depth t) MAX_DEPTH && nat_le (length (text t)) MAX_TEXT_BYTES)

abbrev pub IsSound : Tree → Type 0
IsSound t = IsTrue (is_sound t)
