-- How deep the values inside nest.
use Rattle.std.proofs.Common.{◌≡◌, ℕ, suc, ◌+◌, ◌<◌, ◌≤◌, List, [], ◌∷◌, map, Option, Some, None, Result, Ok, Err, ap, ◌∙◌, zero, length, get_or, drop, ◌++◌, decimal, append_assoc, add-one, refl, arith}
use Rattle.std.specs.Result.{result_map_both}
use Rattle.cd_tree.proofs.Trees.{drop-element}
use Rattle.cd_tree.specs.Fields.{over_layer, unknown, unless_unknown, get}
use Rattle.cd_tree.specs.Path.{◌▸◌}
use Rattle.cd_text.specs.Steps.{◌▷◌}
use Rattle.cd_tree.specs.Tree.{depth, member_depth, largest}
use Rattle.cd_tree.specs.declared.path.Path.{Path}
use Rattle.cd_tree.specs.declared.tree.Member.{Member}
use Rattle.cd_tree.specs.declared.tree.Tree.{Tree, out-Tree}
use Rattle.cd_tree.specs.declared.tree.Tree.TheOpen.{Tree-F}
use Rattle.cd_module.specs.Faults.{of_field}
use Rattle.cd_module.specs.Settings.{Reader, members, each, ahead}
use Rattle.cd_module.specs.declared.fault.LoadFault.{LoadFault}
use Rattle.cd_module.proofs.Recursion.{Within, layer_depth, depth-out, get-within}

-- members that are all known are all of them
known-whole : (o : Option (List ℕ)) (ms all : List Member) (at : Path) → result_map_both (λ found. found) of_field (unless_unknown o ms at) ≡ Ok all → ms ≡ all
known-whole None ms all at e = cc
known-whole (Some name) ms all at e = cc

-- the same of what stands in a value
layer-whole : (names : List ℕ) (x : Tree-F Tree Member) (at : Path) (ms : List Member) → result_map_both (λ found. found) of_field (over_layer names x at) ≡ Ok ms → layer_depth x ≡ suc (largest (map member_depth ms))
layer-whole names Tree-F.Null at ms e = cc
layer-whole names (Tree-F.Bool b) at ms e = cc
layer-whole names (Tree-F.Num m) at ms e = cc
layer-whole names (Tree-F.Text t) at ms e = cc
layer-whole names (Tree-F.Items items) at ms e = cc
layer-whole names (Tree-F.Object all) at ms e = ap (λ x. suc (largest (map member_depth x))) (known-whole (unknown names all) all ms at e)

-- an object nests one deeper than its members
pub members_depth : (names : List ℕ) (t : Tree) (at : Path) (ms : List Member) → members names t at ≡ Ok ms → depth t ≡ suc (largest (map member_depth ms))
unfolding members
members_depth names t at ms e = depth-out t ∙ layer-whole names (out-Tree t) at ms e

-- the member of a name nests no deeper than the deepest one
pub get_depth : (name : List ℕ) (ms : List Member) (s : Tree) → get name ms ≡ Some s → depth s ≤ largest (map member_depth ms)
get_depth name ms s e = let h : depth s < suc (largest (map member_depth ms)) = get-within (suc (largest (map member_depth ms))) name ms (omega arith) s e in omega arith

-- the next steps see only members that are not deep
bound-members : {B : Type 0} (n : ℕ) (r : Result (List Member) LoadFault) (k l : List Member → Result B LoadFault) → ((ms : List Member) → r ≡ Ok ms → Within n ms) → ((ms : List Member) → Within n ms → k ms ≡ l ms) → (r ▷ k) ≡ (r ▷ l)
bound-members n (Ok ms) k l w h = h ms (w ms (λ i. Ok ms))
bound-members n (Err f) k l w h = λ i. Err f

-- what is made of an object's members, where these nest less than n
pub members-same : {B : Type 0} (n : ℕ) (names : List ℕ) (t : Tree) (at : Path) (k l : List Member → Result B LoadFault) → depth t ≤ n → ((ms : List Member) → Within n ms → k ms ≡ l ms) → (members names t at ▷ k) ≡ (members names t at ▷ l)
members-same n names t at k l d h = bound-members n (members names t at) k l (λ ms e. omega (arith, members_depth names t at ms e)) h

-- an element of a list nests no deeper than the deepest one
pub element_depth : (items : List Tree) (i : ℕ) (x : Tree) → i < length items → x ≡ get_or items i x → depth x ≤ largest (map depth items)
element_depth [] i x h e = absurd (omega arith)
element_depth (y ∷ ys) zero x h e = omega (arith, ap depth e)
element_depth (y ∷ ys) (suc i) x h e = omega (arith, element_depth ys i x (omega arith) e)

-- a list from a place on begins with the element there
drop_more_at : (ts : List Tree) (n : ℕ) (t : Tree) → n < length ts → t ≡ get_or ts n t → drop n ts ≡ t ∷ drop (suc n) ts
drop_more_at ts n t h e = rw (← add-one) (drop-element ts n t h e)

-- one more element that was read
more : {X : Type 0} (found : List X) (x : X) (r : Result (List X) LoadFault) → ahead (found ++ x ∷ []) r ≡ ahead found (r ▷ λ xs. Ok (x ∷ xs))
more found x (Ok xs) = ap (λ ys. Ok ys) (append_assoc found (x ∷ []) xs)
more found x (Err f) = refl

-- one more element
pub each_step : {X : Type 0} (r : Reader X) (n : ℕ) (ts : List Tree) (at : Path) (found : List X) (t : Tree) (x : X) → n < length ts → t ≡ get_or ts n t → r t (at ▸ decimal n) ≡ Ok x
    → ahead (found ++ x ∷ []) (each r (n + 1) (drop (n + 1) ts) at) ≡ ahead found (each r n (drop n ts) at)
each_step r n ts at found t x h e s =
    rw (add-one, drop_more_at ts n t h e, s) (more found x (each r (suc n) (drop (suc n) ts) at))
