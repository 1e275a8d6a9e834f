-- The measures of a list and of an object are those that its parts give.
use Rattle.std.proofs.Common.{rules, ◌≡◌, ℕ, suc, ◌+◌, ◌-◌, ◌^◌, ◌≤◌, Bool, true, false, nat_le, max, min, List, [], ◌∷◌, length, map, refl, sym, ap, ◌∙◌, arith}
use Rattle.std.proofs.lemmas.Bool.{leb-true, le-leb}
use Rattle.json.specs.Print.{quoted}
use Rattle.cd_tree.specs.Lengths.{commas, bracketed, weight, member_weight}
use Rattle.cd_tree.specs.Tree.{depth, member_depth, largest, text}
use Rattle.cd_tree.specs.declared.limits.TheConstants.{MAX_DEPTH}
use Rattle.cd_tree.specs.declared.tree.Member.{roll-Member, out-roll-Member}
use Rattle.cd_tree.specs.declared.tree.Tree as tree
use Rattle.cd_tree.specs.declared.tree.Tree.{Tree, the_lemmas}
use Rattle.cd_tree.proofs.TextLengths.{text-length, weight-Items, weight-Object}
use Rattle.cd_tree.proofs.Trees.{depth-Items, depth-Object, member_depth-roll}
use Rattle.cd_caddyfile.specs.Shape.{Entry}
use Rattle.cd_parts.specs.Making.{rolled}
use Rattle.cd_parts.specs.Measures.{capped, within_depth, with_measures, measured, list_of, member_of, part_length, object_of, measured_entry}
use Rattle.cd_parts.specs.declared.measured.Measured.{Measured}
use Rattle.cd_parts.specs.declared.measured.Part.{Part}

abbrev long : Tree → ℕ
long t = length (text t)

-- ---- sums and depths of numbers that are capped

commas-capped : {A : Type 0} (f g : A → ℕ) (xs : List A) → ((x : A) → capped (f x) ≡ capped (g x)) → capped (commas (map f xs)) ≡ capped (commas (map g xs))
commas-capped f g [] same = refl
commas-capped f g (x ∷ xs) same = omega (arith, same x, commas-capped f g xs same)

bracketed-capped : {A : Type 0} (f g : A → ℕ) (xs : List A) → ((x : A) → capped (f x) ≡ capped (g x)) → capped (bracketed (map f xs)) ≡ capped (bracketed (map g xs))
bracketed-capped f g xs same = omega (arith, commas-capped f g xs same)

largest-capped : {A : Type 0} (f g : A → ℕ) (xs : List A) → ((x : A) → capped (f x) ≡ capped (g x)) → capped (largest (map f xs)) ≡ capped (largest (map g xs))
largest-capped f g [] same = refl
largest-capped f g (x ∷ xs) same = omega (arith, same x, largest-capped f g xs same)

deeper-capped : {A : Type 0} (f g : A → ℕ) (xs : List A) → ((x : A) → capped (f x) ≡ capped (g x)) → capped (suc (largest (map f xs))) ≡ capped (suc (largest (map g xs)))
deeper-capped f g xs same = omega (arith, largest-capped f g xs same)

capped-twice : (n : ℕ) → capped (capped n) ≡ capped n
capped-twice n = omega arith

-- what follows the sum of lengths that are capped, and the depth of a whole
pub bracketed-by_sum : (n sum : ℕ) → n ≡ capped sum → min (1 + max 1 n) (2 ^ 64 - 1) ≡ capped (1 + max 1 sum)
bracketed-by_sum n sum is = omega arith

pub deeper-by_largest : (n deepest : ℕ) → n ≡ capped deepest → min (n + 1) (2 ^ 64 - 1) ≡ capped (suc deepest)
deeper-by_largest n deepest is = omega arith

-- ---- which trees are kept

kept : (d : ℕ) (t : Tree) → nat_le d MAX_DEPTH ≡ true → within_depth d t ≡ t
kept d t e = rw e refl

-- each is kept, where they nest so much that one level more fits
all-kept : {A : Type 0} (d : A → ℕ) (t : A → Tree) (xs : List A) → suc (largest (map (λ x. capped (d x)) xs)) ≤ MAX_DEPTH → map (λ x. within_depth (capped (d x)) (t x)) xs ≡ map t xs
all-kept d t [] few = refl
all-kept d t (x ∷ xs) few =
    ap (λ y. y ∷ map (λ x. within_depth (capped (d x)) (t x)) xs) (kept (capped (d x)) (t x) (le-leb _ _ (omega (arith, few))))
    ∙ ap (λ ys. t x ∷ ys) (all-kept d t xs (omega (arith, few)))

same-kept-if : {A : Type 0} (fits : Bool) (n : ℕ) (d : A → ℕ) (t : A → Tree) (whole : List Tree → Tree) (xs : List A) → nat_le n MAX_DEPTH ≡ fits →
    n ≡ capped (suc (largest (map (λ x. capped (d x)) xs))) → within_depth n (whole (map (λ x. within_depth (capped (d x)) (t x)) xs)) ≡ within_depth n (whole (map t xs))
same-kept-if true n d t whole xs e is = ap (λ ts. within_depth n (whole ts)) (all-kept d t xs (omega (arith, leb-true n MAX_DEPTH e, is)))
same-kept-if false n d t whole xs e is = rw e refl

same-kept : {A : Type 0} (n : ℕ) (d : A → ℕ) (t : A → Tree) (whole : List Tree → Tree) (xs : List A) → n ≡ capped (suc (largest (map (λ x. capped (d x)) xs))) →
    within_depth n (whole (map (λ x. within_depth (capped (d x)) (t x)) xs)) ≡ within_depth n (whole (map t xs))
same-kept n d t whole xs is = same-kept-if (nat_le n MAX_DEPTH) n d t whole xs refl is

-- ---- with measures

with-same : (t1 t2 : Tree) (l1 l2 d1 d2 : ℕ) → within_depth d1 t1 ≡ within_depth d1 t2 → l1 ≡ l2 → d1 ≡ d2 → with_measures t1 l1 d1 ≡ with_measures t2 l2 d2
with-same t1 t2 l1 l2 d1 d2 trees lengths depths = λ i. record {
  tree = (trees ∙ ap (λ d. within_depth d t2) depths) i;
  length = lengths i;
  depth = depths i;
}

fuse : {A B C : Type 0} (f : B → C) (g : A → B) (xs : List A) → map f (map g xs) ≡ map (λ x. f (g x)) xs
fuse f g [] = refl
fuse f g (x ∷ xs) = ap (λ z. f (g x) ∷ z) (fuse f g xs)

map-same : {A : Type 0} (xs : List A) → map (λ x. x) xs ≡ xs
map-same [] = refl
map-same (x ∷ xs) = ap (λ ys. x ∷ ys) (map-same xs)

all-members-kept : (es : List Entry) → suc (largest (map (λ (e : Entry). capped (depth e.value)) es)) ≤ MAX_DEPTH → map (λ (e : Entry). member_of (measured_entry e)) es ≡ map rolled es
unfolding measured
all-members-kept [] few = refl
all-members-kept (e ∷ es) few =
    ap (λ (t : Tree). roll-Member (record { key = e.key; value = t }) ∷ map (λ (x : Entry). member_of (measured_entry x)) es) (kept (capped (depth e.value)) e.value (le-leb _ _ (omega (arith, few))))
    ∙ ap (λ ms. rolled e ∷ ms) (all-members-kept es (omega (arith, few)))

same-members-if : (fits : Bool) (n : ℕ) (es : List Entry) → nat_le n MAX_DEPTH ≡ fits → n ≡ capped (suc (largest (map (λ (e : Entry). capped (depth e.value)) es))) →
    within_depth n (tree.Object (map (λ (e : Entry). member_of (measured_entry e)) es)) ≡ within_depth n (tree.Object (map rolled es))
same-members-if true n es e is = ap (λ ms. within_depth n (tree.Object ms)) (all-members-kept es (omega (arith, leb-true n MAX_DEPTH e, is)))
same-members-if false n es e is = rw e refl

same-members : (n : ℕ) (es : List Entry) → n ≡ capped (suc (largest (map (λ (e : Entry). capped (depth e.value)) es))) →
    within_depth n (tree.Object (map (λ (e : Entry). member_of (measured_entry e)) es)) ≡ within_depth n (tree.Object (map rolled es))
same-members n es is = same-members-if (nat_le n MAX_DEPTH) n es refl is

pub list-measured : (ts : List Tree) → list_of (map measured ts) ≡ measured (tree.Items ts)
unfolding measured list_of
list-measured ts =
    let trees = fuse (λ (m : Measured). m.tree) measured ts in
    let lengths = fuse (λ (m : Measured). m.length) measured ts in
    let depths = fuse (λ (m : Measured). m.depth) measured ts in
    let deep : capped (suc (largest (map (λ (m : Measured). m.depth) (map measured ts)))) ≡ capped (suc (largest (map (λ t. capped (depth t)) ts))) = ap (λ ds. capped (suc (largest ds))) depths in
    with-same _ _ _ _ _ _
    (ap (λ x. within_depth (capped (suc (largest (map (λ (m : Measured). m.depth) (map measured ts))))) (tree.Items x)) trees
    ∙ (same-kept (capped (suc (largest (map (λ (m : Measured). m.depth) (map measured ts))))) depth (λ t. t) tree.Items ts deep ∙ ap (λ x. within_depth (capped (suc (largest (map (λ (m : Measured). m.depth) (map measured ts))))) (tree.Items x)) (map-same ts)))
    (ap (λ ls. capped (bracketed ls)) lengths ∙ (bracketed-capped (λ t. capped (long t)) weight ts (λ t. capped-twice (long t) ∙ ap capped (text-length t))
    ∙ ap capped (sym (text-length (tree.Items ts) ∙ weight-Items ts))))
    (deep ∙ (deeper-capped (λ t. capped (depth t)) depth ts (λ t. capped-twice (depth t)) ∙ ap capped (sym (depth-Items ts))))

weight-Text : (t : List ℕ) → weight (tree.Text t) ≡ length (quoted t)
weight-Text t = search (rules, the_lemmas)

-- the length of a member
long-member : (e : Entry) → capped (part_length (measured_entry e)) ≡ capped (member_weight (rolled e))
unfolding measured
long-member e =
    let name : long (tree.Text e.key) ≡ length (quoted e.key) = text-length (tree.Text e.key) ∙ weight-Text e.key in
    let whole : member_weight (rolled e) ≡ length (quoted e.key) + 1 + weight e.value = ap (λ m. length (quoted m.key) + 1 + weight m.value) (out-roll-Member (record { key = e.key; value = e.value })) in
    omega (arith, name, whole, text-length e.value)

pub object-measured : (es : List Entry) → object_of (map measured_entry es) ≡ measured (tree.Object (map rolled es))
unfolding measured object_of
object-measured es =
    let members = fuse member_of measured_entry es in
    let lengths = fuse part_length measured_entry es in
    let depths = fuse (λ (p : Part). p.value.depth) measured_entry es in
    let D = capped (suc (largest (map (λ (p : Part). p.value.depth) (map measured_entry es)))) in
    let deep : D ≡ capped (suc (largest (map (λ e. capped (depth e.value)) es))) = ap (λ ds. capped (suc (largest ds))) depths in
    with-same _ _ _ _ _ _
    (ap (λ x. within_depth D (tree.Object x)) members ∙ same-members D es deep)
    (ap (λ ls. capped (bracketed ls)) lengths ∙ (bracketed-capped (λ e. part_length (measured_entry e)) (λ e. member_weight (rolled e)) es long-member
    ∙ (ap (λ ls. capped (bracketed ls)) (sym (fuse member_weight rolled es)) ∙ ap capped (sym (text-length (tree.Object (map rolled es)) ∙ weight-Object (map rolled es))))))
    (deep ∙ (deeper-capped (λ (e : Entry). capped (depth e.value)) (λ (e : Entry). member_depth (rolled e)) es (λ e. capped-twice (depth e.value) ∙ ap capped (sym (member_depth-roll e.key e.value)))
    ∙ (ap (λ ds. capped (suc (largest ds))) (sym (fuse member_depth rolled es)) ∙ ap capped (sym (depth-Object (map rolled es))))))
