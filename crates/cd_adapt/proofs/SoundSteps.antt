-- An object is ordered where its keys differ and its values are ordered.
use Rattle.std.proofs.Common.{◌≡◌, ℕ, nat_lt, length, Ok, Bool, true, false, if◌then◌else◌, List, [], ◌∷◌, map, refl, sym, ap, subst, ◌∙◌}
use Rattle.std.specs.Prelude.{All, ⊤}
use Rattle.std.specs.Cmp.Lexicographic.{slice_cmp}
use Rattle.std.specs.List.{list_all}
use Rattle.std.specs.Ordering.{is_eq, is_le, is_lt, nat_cmp, ordering_reverse}
use Rattle.std.specs.Str.{bytes_eq}
use Rattle.std.specs.declared.cmp.Ordering.{Ordering}
use Rattle.std.specs.declared.cmp.Ordering.TheVariants.{Less, Equal, Greater}
use Rattle.std.proofs.lemmas.Bool.{false≢true, ltb-false}
use Rattle.std.proofs.lemmas.Cmp.{nat_list_cmp_total}
use Rattle.std.proofs.lemmas.List.Elements.{All-nil, All-cons, All-head, All-tail}
use Rattle.std.proofs.lemmas.Map.Text.{is_eq-slice_cmp}
use Rattle.cd_text.specs.ByKey.{key_le, put_by_key, by_key}
use Rattle.cd_text.specs.Steps.{◌▷◌, refused_where}
use Rattle.cd_tree.proofs.Inside.{both, from_parts}
use Rattle.cd_tree.proofs.Trees.{value_ordered, object_ordered, ordered_member-roll, value_ordered-roll}
use Rattle.cd_tree.specs.Tree.{depth, text, is_ordered, is_below, keys_rise, ordered_member, IsSound}
use Rattle.cd_tree.specs.declared.limits.TheConstants.{MAX_DEPTH, MAX_TEXT_BYTES}
use Rattle.cd_tree.specs.declared.tree.Tree.{Tree}
use Rattle.cd_caddyfile.specs.Adapting.{within_limits}
use Rattle.cd_caddyfile.specs.Faults.{fault_at}
use Rattle.cd_caddyfile.specs.declared.fault.CaddyfileKind.TheVariants.{TooLong, TooDeep}
use Rattle.cd_tree.specs.declared.tree.Member.{roll-Member}
use Rattle.cd_caddyfile.specs.Shape.{Entry, object}

-- ---- keys in order

less : (o : Ordering) → is_lt o ≡ true → o ≡ Less
less Less e = refl
less Equal e = absurd (false≢true e)
less Greater e = absurd (false≢true e)

not_equal : (o : Ordering) → is_le o ≡ true → is_eq o ≡ false → is_lt o ≡ true
not_equal Less e other = refl
not_equal Equal e other = absurd (false≢true (sym other))
not_equal Greater e other = absurd (false≢true e)

turned : (o : Ordering) → is_le o ≡ false → is_lt (ordering_reverse o) ≡ true
turned Less e = absurd (false≢true (sym e))
turned Equal e = absurd (false≢true (sym e))
turned Greater e = refl

below-trans : (a b c : List ℕ) → is_below a b ≡ true → is_below b c ≡ true → is_below a c ≡ true
below-trans a b c one other = ap is_lt (nat_list_cmp_total.trans a b c (less (slice_cmp nat_cmp a b) one) (less (slice_cmp nat_cmp b c) other))

-- ---- entries with different keys

abbrev Below : List ℕ → Entry → Type 0
Below k e = is_below k e.key ≡ true

-- each key is below those after it
abbrev Climbs : List Entry → Type 0
Climbs [] = ⊤
Climbs (e ∷ es) = All (λ (o : Entry). Below e.key o) es × Climbs es

abbrev Differs : List ℕ → Entry → Type 0
Differs k e = bytes_eq k e.key ≡ false

-- no two keys are the same
abbrev pub AreDistinct : List Entry → Type 0
AreDistinct [] = ⊤
AreDistinct (e ∷ es) = All (λ (o : Entry). bytes_eq e.key o.key ≡ false) es × AreDistinct es

abbrev pub AreOrdered : List Entry → Type 0
AreOrdered es = All (λ (e : Entry). is_ordered e.value ≡ true) es

All-put : (P : Entry → Type 0) (x : Entry) (ys : List Entry) → P x → All P ys → All P (put_by_key (λ (e : Entry). e.key) x ys)
All-put P x [] here all = All-cons P x [] here all
All-put P x (y ∷ ys) here all =
    elim (key_le (λ (e : Entry). e.key) x y) as (λ first. All P (if first then x ∷ (y ∷ ys) else y ∷ put_by_key (λ (e : Entry). e.key) x ys)) [
      | true ↦ All-cons P x (y ∷ ys) here all
      | false ↦ All-cons P y (put_by_key (λ (e : Entry). e.key) x ys) (All-head P y ys all) (All-put P x ys here (All-tail P y ys all))
    ]

All-by_key : (P : Entry → Type 0) (xs : List Entry) → All P xs → All P (by_key (λ (e : Entry). e.key) xs)
All-by_key P [] all = all
All-by_key P (x ∷ xs) all = All-put P x (by_key (λ (e : Entry). e.key) xs) (All-head P x xs all) (All-by_key P xs (All-tail P x xs all))

below-all : (k l : List ℕ) (ys : List Entry) → is_below k l ≡ true → All (λ (o : Entry). Below l o) ys → All (λ (o : Entry). Below k o) ys
below-all k l [] first all = All-nil (λ (o : Entry). Below k o)
below-all k l (y ∷ ys) first all =
    All-cons (λ (o : Entry). Below k o) y ys (below-trans k l y.key first (All-head (λ (o : Entry). Below l o) y ys all)) (below-all k l ys first (All-tail (λ (o : Entry). Below l o) y ys all))

climbs-at : (first : Bool) (x y : Entry) (ys : List Entry) → key_le (λ (e : Entry). e.key) x y ≡ first → Differs x.key y → Climbs (y ∷ ys) →
    Climbs (put_by_key (λ (e : Entry). e.key) x ys) → Climbs (if first then x ∷ (y ∷ ys) else y ∷ put_by_key (λ (e : Entry). e.key) x ys)
climbs-at true x y ys is differs climbs rest =
    let below : is_below x.key y.key ≡ true = not_equal (slice_cmp nat_cmp x.key y.key) is (is_eq-slice_cmp x.key y.key ∙ differs) in
    (All-cons (λ (o : Entry). Below x.key o) y ys below (below-all x.key y.key ys below climbs.0), climbs)
climbs-at false x y ys is differs climbs rest =
    let below : is_below y.key x.key ≡ true = ap is_lt (nat_list_cmp_total.antisymm y.key x.key) ∙ turned (slice_cmp nat_cmp x.key y.key) is in
    (All-put (λ (o : Entry). Below y.key o) x ys below climbs.0, rest)

climbs-put : (x : Entry) (ys : List Entry) → All (λ (o : Entry). Differs x.key o) ys → Climbs ys → Climbs (put_by_key (λ (e : Entry). e.key) x ys)
climbs-put x [] differ climbs = (All-nil (λ (o : Entry). Below x.key o), tt)
climbs-put x (y ∷ ys) differ climbs =
    climbs-at (key_le (λ (e : Entry). e.key) x y) x y ys refl (All-head (λ (o : Entry). Differs x.key o) y ys differ) climbs (climbs-put x ys (All-tail (λ (o : Entry). Differs x.key o) y ys differ) climbs.1)

climbs-all : (xs : List Entry) → AreDistinct xs → Climbs (by_key (λ (e : Entry). e.key) xs)
climbs-all [] distinct = tt
climbs-all (x ∷ xs) distinct =
    climbs-put x (by_key (λ (e : Entry). e.key) xs) (All-by_key (λ (o : Entry). Differs x.key o) xs distinct.0) (climbs-all xs distinct.1)

-- ---- the object

below-members : (k : List ℕ) (es : List Entry) → All (λ (o : Entry). Below k o) es →
    list_all (λ later. is_below k later.0) (map ordered_member (map (λ (e : Entry). roll-Member (record { key = e.key; value = e.value })) es)) ≡ true
below-members k [] all = refl
below-members k (e ∷ es) all =
    both _ _ (ap (λ m. is_below k m.0) (ordered_member-roll e.key e.value) ∙ All-head (λ (o : Entry). Below k o) e es all) (below-members k es (All-tail (λ (o : Entry). Below k o) e es all))

members-rise : (es : List Entry) → Climbs es → keys_rise (map ordered_member (map (λ (e : Entry). roll-Member (record { key = e.key; value = e.value })) es)) ≡ true
members-rise [] climbs = refl
members-rise (e ∷ es) climbs =
    let ms = map ordered_member (map (λ (o : Entry). roll-Member (record { key = o.key; value = o.value })) es) in
    both _ _ (ap (λ (m : List ℕ × Bool). list_all (λ later. is_below m.0 later.0) ms) (ordered_member-roll e.key e.value) ∙ below-members e.key es climbs.0) (members-rise es climbs.1)

values-ordered : (es : List Entry) → AreOrdered es → list_all value_ordered (map (λ (e : Entry). roll-Member (record { key = e.key; value = e.value })) es) ≡ true
values-ordered [] all = refl
values-ordered (e ∷ es) all =
    both _ _ (value_ordered-roll e.key e.value ∙ All-head (λ (o : Entry). is_ordered o.value ≡ true) e es all) (values-ordered es (All-tail (λ (o : Entry). is_ordered o.value ≡ true) e es all))

pub object_is_ordered : (es : List Entry) → AreDistinct es → AreOrdered es → is_ordered (object es) ≡ true
object_is_ordered es distinct ordered =
    let sorted = by_key (λ (e : Entry). e.key) es in
    object_ordered (map (λ (e : Entry). roll-Member (record { key = e.key; value = e.value })) sorted)
    ∙ both _ _ (members-rise sorted (climbs-all es distinct)) (values-ordered sorted (All-by_key (λ (e : Entry). is_ordered e.value ≡ true) es ordered))

-- ---- within the limits

sound-by : (long deep : Bool) (t made : Tree) → nat_lt MAX_TEXT_BYTES (length (text t)) ≡ long → nat_lt MAX_DEPTH (depth t) ≡ deep → is_ordered t ≡ true →
    (refused_where long (fault_at 0 TooLong) ▷ λ _. refused_where deep (fault_at 0 TooDeep) ▷ λ _. Ok t) ≡ Ok made → IsSound made
sound-by true deep t made long-is deep-is ordered is = cc
sound-by false true t made long-is deep-is ordered is = cc
sound-by false false t made long-is deep-is ordered is =
    let same : t ≡ made = cc in
    subst IsSound same (from_parts t (record { ordered = ordered; shallow = ltb-false MAX_DEPTH (depth t) deep-is; short = ltb-false MAX_TEXT_BYTES (length (text t)) long-is }))

-- a tree that is ordered is sound, where the limits let it through
pub sound_within : (t made : Tree) → is_ordered t ≡ true → within_limits t ≡ Ok made → IsSound made
sound_within t made ordered is = sound-by (nat_lt MAX_TEXT_BYTES (length (text t))) (nat_lt MAX_DEPTH (depth t)) t made refl refl ordered is
