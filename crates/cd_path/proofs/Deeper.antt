-- A PUT at parts that the tree lacks makes a level for each.
use Rattle.std.proofs.Common.{◌≡◌, ℕ, zero, suc, ◌<◌, ◌≤◌, nat_lt, List, [], ◌∷◌, ◌++◌, length, map, filter, drop, get_or, set, Some, Ok, Err, false, refl, sym, ap, ◌∙◌, subst, arith}
use Rattle.std.proofs.lemmas.Bool.{lt-ltb}
use Rattle.std.proofs.lemmas.Option.{slice_get-get_or, get_or_from_slice_get}
use Rattle.cd_text.specs.Steps.{◌▷◌, refused_where}
use Rattle.cd_tree.specs.Tree.{depth, member_depth, largest, text}
use Rattle.cd_tree.specs.declared.limits.TheConstants.{MAX_DEPTH, MAX_TEXT_BYTES}
use Rattle.cd_tree.specs.declared.tree.Member.{Member}
use Rattle.cd_tree.specs.declared.tree.Tree.{Tree, Null, Items, Object, out-Tree}
use Rattle.cd_tree.specs.declared.tree.Tree.TheOpen.{Tree-F}
use Rattle.cd_tree.specs.declared.tree.Tree.TheVariants.{outs-Object}
use Rattle.cd_tree.proofs.Trees.{depth-Items, depth-Object, member_depth-roll}
use Rattle.cd_path.specs.Editing.{entered, way_edit, change, within_limits}
use Rattle.cd_path.specs.Looking.{member_at, ends_in_ellipsis}
use Rattle.cd_path.specs.Members.{is_before, is_after, with_member}
use Rattle.cd_path.specs.Position.{place}
use Rattle.cd_path.specs.TooDeep.{IsDeeper, PutsTooDeep, IsWayInto}
use Rattle.cd_path.specs.declared.fault.EditFault.TheVariants.{ResultTooDeep, ResultTooLong}
use Rattle.cd_path.specs.declared.verb.Verb.TheVariants.{Put}
use Rattle.cd_path.proofs.Keys.{member_with}
use Rattle.cd_path.proofs.Puts.{put_key}
use Rattle.cd_path.proofs.Steps.{last_of_rest}

-- ---- levels

among_members : (xs : List Member) (m : Member) (ys : List Member) → member_depth m ≤ largest (map member_depth (xs ++ m ∷ ys))
among_members [] m ys = omega arith
among_members (x ∷ xs) m ys = let h = among_members xs m ys in omega (arith, h)

among_elements : (xs : List Tree) (n : ℕ) (new : Tree) → n < length xs → depth new ≤ largest (map depth (set xs n new))
among_elements [] n new h = absurd (omega arith)
among_elements (x ∷ xs) zero new h = omega arith
among_elements (x ∷ xs) (suc n) new h = let k = among_elements xs n new (omega arith) in omega (arith, k)

member_deeper : (key : List ℕ) (value : Tree) (ms : List Member) → depth value < depth (Object (with_member key (Some value) ms))
member_deeper key value ms =
    let h = among_members (filter (is_before key) ms) (member_with key value) (filter (is_after key) ms) in
    omega (arith, h, member_depth-roll key value, depth-Object (with_member key (Some value) ms))

element_deeper : (xs : List Tree) (n : ℕ) (new : Tree) → n < length xs → depth new < depth (Items (set xs n new))
element_deeper xs n new h = omega (arith, among_elements xs n new h, depth-Items (set xs n new))

-- ---- one part

pub object_way : (part : List ℕ) (t value : Tree) (ms : List Member) → out-Tree t ≡ Tree-F.Object ms → value ≡ entered Put (member_at part ms) → IsWayInto part t value
object_way part t value ms e s = record {
  around = λ made. Object (with_member part (Some made) ms);
  is = λ edit_below. ap (way_edit Put edit_below part) e ∙ ap (λ v. edit_below v ▷ λ made. Ok (Object (with_member part (Some made) ms))) (sym s);
  deeper = λ made. member_deeper part made ms;
}

pub items_way : (part : List ℕ) (t value : Tree) (xs : List Tree) (n : ℕ) → out-Tree t ≡ Tree-F.Items xs → Ok n ≡ place (length xs) part → n < length xs → value ≡ get_or xs n value → IsWayInto part t value
items_way part t value xs n e p h s = record {
  around = λ made. Items (set xs n made);
  is = λ edit_below. ap (way_edit Put edit_below part) e ∙ ap (λ r. r ▷ λ k. edit_below (get_or xs k Null) ▷ λ made. Ok (Items (set xs k made))) (sym p)
      ∙ ap (λ v. edit_below v ▷ λ made. Ok (Items (set xs n made))) (get_or_from_slice_get xs n (get_or xs n value) Null (slice_get-get_or xs n value h) ∙ sym s);
  deeper = λ made. element_deeper xs n made h;
}

pub way_deep : (part : List ℕ) (rest : List (List ℕ)) (t value : Tree) → 0 < length rest → IsWayInto part t value → PutsTooDeep rest value → PutsTooDeep (part ∷ rest) t
way_deep part [] t value h w d body = absurd (omega arith)
way_deep part (next ∷ rest) t value h w d body =
    let below = d body in
    record {
      tree = w.around below.tree;
      is = w.is (change Put body (next ∷ rest)) ∙ ap (λ r. r ▷ λ made. Ok (w.around made)) below.is;
      deep = omega (arith, w.deeper below.tree, below.deep);
    }

pub rest_plain : (part : List ℕ) (rest : List (List ℕ)) → 0 < length rest → ends_in_ellipsis (part ∷ rest) ≡ false → ends_in_ellipsis rest ≡ false
rest_plain part [] h p = absurd (omega arith)
rest_plain part (next ∷ rest) h p = sym (last_of_rest part next rest) ∙ p

-- what follows the first part
pub record Following (left : List (List ℕ)) (t value : Tree) : Type 0 where
  pub plain : ends_in_ellipsis (drop 1 left) ≡ false
  pub deeper : PutsTooDeep (drop 1 left) value → PutsTooDeep left t

pub following : (left : List (List ℕ)) (part : List ℕ) (t value : Tree) → MAX_DEPTH < length left → part ≡ get_or left 0 part → ends_in_ellipsis left ≡ false → IsWayInto part t value → Following left t value
following [] part t value h e p w = absurd (omega arith)
following (first ∷ rest) part t value h e p w =
    let more : 0 < length rest = omega (arith, h) in
    record { plain = rest_plain first rest more p; deeper = λ d. way_deep first rest t value more (subst (λ (k : List ℕ). IsWayInto k t value) e w) d }

-- ---- an empty object

chain : (part : List ℕ) (rest : List (List ℕ)) (t body : Tree) → out-Tree t ≡ Tree-F.Object [] → ends_in_ellipsis (part ∷ rest) ≡ false → IsDeeper (length rest) (change Put body (part ∷ rest) t)
chain part [] t body e p = record {
  tree = Object (with_member part (Some body) []);
  is = put_key part body t [] p e refl;
  deep = omega (arith, member_deeper part body []);
}
chain part (next ∷ rest) t body e p =
    let w = object_way part t (Object []) [] e refl in
    let below = chain next rest (Object []) body (outs-Object []) (sym (last_of_rest part next rest) ∙ p) in
    record {
      tree = w.around below.tree;
      is = w.is (change Put body (next ∷ rest)) ∙ ap (λ r. r ▷ λ made. Ok (w.around made)) below.is;
      deep = omega (arith, w.deeper below.tree, below.deep);
    }

pub from_empty : (parts : List (List ℕ)) (t : Tree) → out-Tree t ≡ Tree-F.Object [] → ends_in_ellipsis parts ≡ false → MAX_DEPTH < length parts → PutsTooDeep parts t
from_empty [] t e p h body = absurd (omega arith)
from_empty (part ∷ rest) t e p h body =
    let d = chain part rest t body e p in
    record { tree = d.tree; is = d.is; deep = omega (arith, d.deep, h) }

-- ---- the whole

pub deep_refused : (parts : List (List ℕ)) (t body : Tree) → PutsTooDeep parts t → (change Put body parts t ▷ within_limits) ≡ Err ResultTooDeep
deep_refused parts t body d =
    let made = d body in
    ap (λ r. r ▷ within_limits) made.is
    ∙ ap (λ b. refused_where b ResultTooDeep ▷ λ _. refused_where (nat_lt MAX_TEXT_BYTES (length (text made.tree))) ResultTooLong ▷ λ _. Ok made.tree) (lt-ltb MAX_DEPTH (depth made.tree) made.deep)
