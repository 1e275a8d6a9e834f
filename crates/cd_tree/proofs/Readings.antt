-- A reading has the text and the depth of its tree.
use Rattle.std.proofs.Common.{◌≡◌, ℤ, pos, negsuc, List, [], ◌∷◌, ◌++◌, map, max, suc, Bool, false, Ok, refl, sym, ap, ap₂, ◌∙◌, append_assoc}
use Rattle.std.specs.Prelude.{◌||◌}
use Rattle.json.specs.Token.{key, begin_array, end_array, begin_object, end_object}
use Rattle.json.specs.Tree.{json_tokens, items_tokens, members_tokens}
use Rattle.serde_json.specs.Data as json
use Rattle.serde_json.specs.Written.{outline, items_outline, members_outline, has_float, items_have_float, members_have_float}
use Rattle.cd_text.specs.Steps.{◌▷◌, joined}
use Rattle.cd_tree.specs.Tree.{depth, member_depth, largest, tokens, member_tokens}
use Rattle.cd_tree.specs.Reading.{num_of, of_number, of_reading, of_items, of_members}
use Rattle.cd_tree.specs.declared.tree.Member.{Member, roll-Member}
use Rattle.cd_tree.specs.declared.tree.Tree as tree
use Rattle.cd_tree.specs.declared.tree.Tree.{Tree, Null, Items, Object}
use Rattle.cd_tree.proofs.Outcomes.{chained}
use Rattle.cd_tree.proofs.Trees.{depth-Items, depth-Object, tokens-Items, tokens-Object, depth-Null, tokens-Null, depth-Bool, tokens-Bool, depth-Num, tokens-Num, depth-Text, tokens-Text, member_tokens-roll, member_depth-roll}

pub record IsSame (d : json.Data) (t : Tree) : Type 0 where
  pub whole : has_float d ≡ false
  pub same : json_tokens (outline d) ≡ tokens t
  pub deep : json.depth d ≡ depth t

pub record AreSameItems (ds : json.Items) (ts : List Tree) : Type 0 where
  pub whole : items_have_float ds ≡ false
  pub same : items_tokens (items_outline ds) ≡ joined (map tokens ts) ++ end_array ∷ []
  pub deep : json.items_depth ds ≡ largest (map depth ts)

pub record AreSameMembers (ds : json.Members) (ms : List Member) : Type 0 where
  pub whole : members_have_float ds ≡ false
  pub same : members_tokens (members_outline ds) ≡ joined (map member_tokens ms) ++ end_object ∷ []
  pub deep : json.members_depth ds ≡ largest (map member_depth ms)

either_float : (a b : Bool) → a ≡ false → b ≡ false → (a || b) ≡ false
either_float a b e f = rw (e, f)

-- the tree is the one that one step gives
same_at : (d : json.Data) (t u : Tree) → has_float d ≡ false → json_tokens (outline d) ≡ tokens t → json.depth d ≡ depth t → t ≡ u → IsSame d u
same_at d t u whole same deep is = record { whole = whole; same = same ∙ ap tokens is; deep = deep ∙ ap depth is }

same_integer : (z : ℤ) → json_tokens (outline (json.number (json.negative z))) ≡ tokens (tree.Num (num_of z))
same_integer (pos n) = sym (tokens-Num (num_of (pos n)))
same_integer (negsuc n) = sym (tokens-Num (num_of (negsuc n)))

same_number : (n : json.Num) (t : Tree) → (of_number n ▷ λ x. Ok (tree.Num x)) ≡ Ok t → IsSame (json.number n) t
same_number (json.unsigned n) t e = same_at _ (tree.Num (num_of (pos n))) t refl (sym (tokens-Num (num_of (pos n)))) (sym (depth-Num (num_of (pos n)))) cc
same_number (json.negative z) t e = same_at _ (tree.Num (num_of z)) t refl (same_integer z) (sym (depth-Num (num_of z))) cc
same_number (json.float x) t e = absurd (let no : ⊥ = cc in no)

mutual
  pub is_same : (d : json.Data) (t : Tree) → of_reading d ≡ Ok t → IsSame d t
  is_same json.null t e = same_at json.null Null t refl (sym tokens-Null) (sym depth-Null) cc
  is_same (json.boolean b) t e = same_at (json.boolean b) (tree.Bool b) t refl (sym (tokens-Bool b)) (sym (depth-Bool b)) cc
  is_same (json.number n) t e = same_number n t e
  is_same (json.string s) t e = same_at (json.string s) (tree.Text s) t refl (sym (tokens-Text s)) (sym (depth-Text s)) cc
  is_same (json.array ds) t e =
      let c = chained (of_items ds) (λ items. Ok (Items items)) t e in
      let below = are_same_items ds c.0 c.1 in
      let is : Items c.0 ≡ t = let h = c.2 in cc in
      same_at (json.array ds) (Items c.0) t below.whole (ap (λ ts. begin_array ∷ ts) below.same ∙ sym (tokens-Items c.0)) (ap suc below.deep ∙ sym (depth-Items c.0)) is
  is_same (json.object ds) t e =
      let c = chained (of_members ds) (λ members. Ok (Object members)) t e in
      let below = are_same_members ds c.0 c.1 in
      let is : Object c.0 ≡ t = let h = c.2 in cc in
      same_at (json.object ds) (Object c.0) t below.whole (ap (λ ts. begin_object ∷ ts) below.same ∙ sym (tokens-Object c.0)) (ap suc below.deep ∙ sym (depth-Object c.0)) is

  pub are_same_items : (ds : json.Items) (ts : List Tree) → of_items ds ≡ Ok ts → AreSameItems ds ts
  are_same_items json.no_items ts e = let is : [] ≡ ts = cc in record { whole = refl; same = ap (λ us. joined (map tokens us) ++ end_array ∷ []) is; deep = ap (λ us. largest (map depth us)) is }
  are_same_items (json.item d ds) ts e =
      let c = chained (of_reading d) (λ first. of_items ds ▷ λ rest. Ok (first ∷ rest)) ts e in
      let r = chained (of_items ds) (λ rest. Ok (c.0 ∷ rest)) ts c.2 in
      let here = is_same d c.0 c.1 in
      let below = are_same_items ds r.0 r.1 in
      let is : c.0 ∷ r.0 ≡ ts = let h = r.2 in cc in
      record {
        whole = either_float _ _ here.whole below.whole;
        same = ap₂ (λ a b. a ++ b) here.same below.same ∙ sym (append_assoc (tokens c.0) (joined (map tokens r.0)) (end_array ∷ [])) ∙ ap (λ us. joined (map tokens us) ++ end_array ∷ []) is;
        deep = ap₂ max here.deep below.deep ∙ ap (λ us. largest (map depth us)) is;
      }

  pub are_same_members : (ds : json.Members) (ms : List Member) → of_members ds ≡ Ok ms → AreSameMembers ds ms
  are_same_members json.no_members ms e = let is : [] ≡ ms = cc in record { whole = refl; same = ap (λ us. joined (map member_tokens us) ++ end_object ∷ []) is; deep = ap (λ us. largest (map member_depth us)) is }
  are_same_members (json.member k d ds) ms e =
      let c = chained (of_reading d) (λ value. of_members ds ▷ λ rest. Ok (roll-Member (record { key = k; value = value }) ∷ rest)) ms e in
      let m = roll-Member (record { key = k; value = c.0 }) in
      let r = chained (of_members ds) (λ rest. Ok (m ∷ rest)) ms c.2 in
      let here = is_same d c.0 c.1 in
      let below = are_same_members ds r.0 r.1 in
      let is : m ∷ r.0 ≡ ms = let h = r.2 in cc in
      record {
        whole = either_float _ _ here.whole below.whole;
        same = ap₂ (λ a b. key k ∷ (a ++ b)) here.same below.same ∙ sym (append_assoc (key k ∷ tokens c.0) (joined (map member_tokens r.0)) (end_object ∷ []))
            ∙ ap (λ ts. (ts ++ joined (map member_tokens r.0)) ++ end_object ∷ []) (sym (member_tokens-roll k c.0)) ∙ ap (λ us. joined (map member_tokens us) ++ end_object ∷ []) is;
        deep = ap₂ max (here.deep ∙ sym (member_depth-roll k c.0)) below.deep ∙ ap (λ us. largest (map member_depth us)) is;
      }
