-- Where a name is among names with their values, for the clauses of private functions.
use Rattle.std.specs.Prelude.{ℕ, suc, if◌then◌else◌, List, [], ◌∷◌, Option, Some, None, option_map}
use Rattle.std.specs.BTreeMap.{BTreeMap, get_by}
use Rattle.std.specs.Cmp.Lexicographic.{slice_cmp}
use Rattle.std.specs.Ordering.{nat_cmp}
use Rattle.std.specs.Str.{bytes_eq}
use Rattle.cd_caddyfile.specs.Sites.{Wanted}
use Rattle.std.specs.Borrow.{Bor}

-- the place of the first that has this name, counted from 0
abbrev pub place_of : List ℕ → List Wanted → Option ℕ
place_of name [] = None
place_of name (w ∷ ws) = if bytes_eq w.name name then Some 0 else option_map suc (place_of name ws)

-- the place that a map has for a name
abbrev pub place_in : BTreeMap (Bor (List ℕ)) ℕ → List ℕ → Option ℕ
place_in places name = get_by (λ k. slice_cmp nat_cmp name k.now) places
