-- How long a tree's text is, level by level, for the clauses of private functions.
use Rattle.std.specs.Prelude.{ℕ, ◌+◌, ◌||◌, ◌==◌, max, Bool, cond, List, [], ◌∷◌, length}
use Rattle.json.specs.Print.{quoted}
use Rattle.json.specs.Run.{is_stop}
use Rattle.cd_tree.specs.Tree.{number_text}
use Rattle.cd_tree.specs.declared.tree.Member.{Member, out-Member}
use Rattle.cd_tree.specs.declared.tree.Tree.{Tree, fold-Tree}
use Rattle.cd_tree.specs.declared.tree.Tree.TheOpen.{Tree-F}

-- ---- texts

-- the byte's escape is a backslash and one letter
abbrev pub has_letter : ℕ → Bool
has_letter x = (x == 34) || ((x == 92) || ((x == 8) || ((x == 12) || ((x == 10) || ((x == 13) || (x == 9))))))

-- by how much the escape of a byte is longer than the byte
abbrev pub longer : ℕ → ℕ
longer x = cond (is_stop x) (cond (has_letter x) 1 5) 0

-- by how much the escapes of a text are longer than the text
abbrev pub more : List ℕ → ℕ
more [] = 0
more (x ∷ xs) = longer x + more xs

-- ---- values

-- values, each with a comma
abbrev pub commas : List ℕ → ℕ
commas [] = 0
commas (n ∷ ns) = 1 + n + commas ns

-- the same in brackets, where the last has no comma
abbrev pub bracketed : List ℕ → ℕ
bracketed ns = 1 + max 1 (commas ns)

-- one level, with the length of each value inside in its place
abbrev pub weight_step : Tree-F ℕ ℕ → ℕ
weight_step Tree-F.Null = 4
weight_step (Tree-F.Bool b) = cond b 4 5
weight_step (Tree-F.Num n) = length (number_text n)
weight_step (Tree-F.Text t) = length (quoted t)
weight_step (Tree-F.Items ns) = bracketed ns
weight_step (Tree-F.Object ns) = bracketed ns

-- how long the text of a tree is
abbrev pub weight : Tree → ℕ
weight = fold-Tree ℕ ℕ weight_step (λ member. length (quoted member.key) + 1 + member.value)

-- how long the text of a member is: a key, a colon and a value
abbrev pub member_weight : Member → ℕ
member_weight member = length (quoted (out-Member member).key) + 1 + weight (out-Member member).value
