-- The trees of the two configurations are sound.
use Rattle.std.proofs.Common.{◌≤◌, Bool, true, false, [], ◌∷◌, length, ap, arith}
use Rattle.json.specs.Token.{boolean}
use Rattle.json.specs.Print.{print, print_from}
use Rattle.cd_tree.specs.Tree.{IsSound}
use Rattle.cd_tree.specs.declared.tree.Tree.TheVariants as tree
use Rattle.cd_tree.proofs.Inside.{from_parts}
use Rattle.cd_tree.proofs.Trees.{is_ordered-Bool, depth-Bool, tokens-Bool}

truth_length : (b : Bool) → length (print (boolean b ∷ [])) ≤ 5
unfolding print_from
truth_length true = omega arith
truth_length false = omega arith

pub truth_sound : (b : Bool) → IsSound (tree.Bool b)
truth_sound b = from_parts (tree.Bool b) (record { ordered = is_ordered-Bool b; shallow = omega (arith, depth-Bool b); short = omega (arith, ap (λ ts. length (print ts)) (tokens-Bool b), truth_length b) })
