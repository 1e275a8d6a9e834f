-- Members with another value at a key: the others stay, and two keys do not disturb each other.
use Rattle.std.proofs.Common.{◌≡◌, ◌≢◌, ℕ, List, [], ◌∷◌, ◌++◌, Option, Some, None, Bool, true, false, cond, filter, Ordering, Less, Equal, Greater, refl, sym, ap, ap₂, ◌∙◌, append_assoc, append-nil}
use Rattle.std.proofs.lemmas.Cmp.{nat_list_cmp_total}
use Rattle.std.proofs.lemmas.List.Elements.{filter-append}
use Rattle.std.proofs.lemmas.Map.Text.{is_eq-slice_cmp}
use Rattle.std.proofs.lemmas.Slice.Eq.{bytes_eq-Decides}
use Rattle.std.specs.Ordering.{is_lt, is_gt, is_eq}
use Rattle.std.specs.Str.{bytes_eq}
use Rattle.cd_tree.specs.declared.tree.Member.{Member, out-Member}
use Rattle.cd_tree.specs.declared.tree.Tree.{Tree}
use Rattle.cd_path.specs.Looking.{member_at}
use Rattle.cd_path.specs.Members.{is_before, is_after, with_member, member_of}
use Rattle.cd_path.proofs.Keys.{key_of, cmp, less, greater, turned, turned_back, member_with, keyed, valued}

-- ---- one filter after another

narrow : (p q : Member → Bool) (m : Member) (rest : List Member) (a b : Bool) → p m ≡ a → q m ≡ b → (a ≡ true → b ≡ true) → filter p (cond b (m ∷ rest) rest) ≡ cond a (m ∷ filter p rest) (filter p rest)
narrow p q m rest a true e f h = ap (λ c. cond c (m ∷ filter p rest) (filter p rest)) e
narrow p q m rest true false e f h = let x : false ≡ true = h refl in cc
narrow p q m rest false false e f h = refl

-- the wider filter first changes nothing
filter-narrow : (p q : Member → Bool) (ms : List Member) → ((m : Member) → p m ≡ true → q m ≡ true) → filter p (filter q ms) ≡ filter p ms
filter-narrow p q [] h = refl
filter-narrow p q (m ∷ ms) h =
    narrow p q m (filter q ms) (p m) (q m) refl refl (h m) ∙ ap (λ r. cond (p m) (m ∷ r) r) (filter-narrow p q ms h)

wide : (p q : Member → Bool) (m : Member) (rest : List Member) (a b : Bool) → p m ≡ a → q m ≡ b → (a ≡ true → b ≡ true) → filter q (cond a (m ∷ rest) rest) ≡ cond a (m ∷ filter q rest) (filter q rest)
wide p q m rest true b e f h = ap (λ c. cond c (m ∷ filter q rest) (filter q rest)) (f ∙ h refl)
wide p q m rest false b e f h = refl

-- the wider filter last changes nothing
filter-wide : (p q : Member → Bool) (ms : List Member) → ((m : Member) → p m ≡ true → q m ≡ true) → filter q (filter p ms) ≡ filter p ms
filter-wide p q [] h = refl
filter-wide p q (m ∷ ms) h = wide p q m (filter p ms) (p m) (q m) refl refl (h m) ∙ ap (λ r. cond (p m) (m ∷ r) r) (filter-wide p q ms h)

swap : (p q : Member → Bool) (m : Member) (xs : List Member) (a b : Bool) → p m ≡ a → q m ≡ b → filter p (filter q xs) ≡ filter q (filter p xs)
    → filter p (cond b (m ∷ filter q xs) (filter q xs)) ≡ filter q (cond a (m ∷ filter p xs) (filter p xs))
swap p q m xs true true e f h = ap (λ c. cond c (m ∷ filter p (filter q xs)) (filter p (filter q xs))) e ∙ ap (λ r. m ∷ r) h ∙ sym (ap (λ c. cond c (m ∷ filter q (filter p xs)) (filter q (filter p xs))) f)
swap p q m xs true false e f h = h ∙ sym (ap (λ c. cond c (m ∷ filter q (filter p xs)) (filter q (filter p xs))) f)
swap p q m xs false true e f h = ap (λ c. cond c (m ∷ filter p (filter q xs)) (filter p (filter q xs))) e ∙ h
swap p q m xs false false e f h = h

filter-comm : (p q : Member → Bool) (ms : List Member) → filter p (filter q ms) ≡ filter q (filter p ms)
filter-comm p q [] = refl
filter-comm p q (m ∷ ms) = swap p q m ms (p m) (q m) refl refl (filter-comm p q ms)

dropped : (p q : Member → Bool) (m : Member) (rest : List Member) (b : Bool) → q m ≡ b → (q m ≡ true → p m ≡ false) → filter p rest ≡ [] → filter p (cond b (m ∷ rest) rest) ≡ []
dropped p q m rest true e h f = ap (λ c. cond c (m ∷ filter p rest) (filter p rest)) (h e) ∙ f
dropped p q m rest false e h f = f

-- filters that exclude each other
filter-none : (p q : Member → Bool) (ms : List Member) → ((m : Member) → q m ≡ true → p m ≡ false) → filter p (filter q ms) ≡ []
filter-none p q [] h = refl
filter-none p q (m ∷ ms) h = dropped p q m (filter q ms) (q m) refl (h m) (filter-none p q ms h)

parted : (p : Member → Bool) (xs ys : List Member) (m : Member) (b : Bool) → p m ≡ b → filter p (xs ++ m ∷ ys) ≡ filter p xs ++ cond b (m ∷ filter p ys) (filter p ys)
parted p xs ys m b e = filter-append p xs (m ∷ ys) ∙ ap (λ c. filter p xs ++ cond c (m ∷ filter p ys) (filter p ys)) e

-- ---- two keys in either order

module _ (low high : List ℕ) (e : cmp low high ≡ Less) where
  before_low : (m : Member) → is_before low m ≡ true → is_before high m ≡ true
  before_low m h = ap is_lt (nat_list_cmp_total.trans (key_of m) low high (less _ h) e)

  after_high : (m : Member) → is_after high m ≡ true → is_after low m ≡ true
  after_high m h = ap is_gt (turned_back low (key_of m) (nat_list_cmp_total.trans low high (key_of m) e (turned (key_of m) high (greater _ h))))

  high_not_before_low : (m : Member) → is_after high m ≡ true → is_before low m ≡ false
  high_not_before_low m h = ap is_lt (greater _ (after_high m h))

  low_not_after_high : (m : Member) → is_before low m ≡ true → is_after high m ≡ false
  low_not_after_high m h = ap is_gt (less _ (before_low m h))

-- the members with two keys set, the lower one first
abbrev both_set : List ℕ → Tree → List ℕ → Tree → List Member → List Member
both_set low a high b ms =
    filter (is_before low) ms ++ member_with low a ∷ (filter (is_before high) (filter (is_after low) ms) ++ member_with high b ∷ filter (is_after high) ms)

high_first : (low high : List ℕ) (a b : Tree) (ms : List Member) → cmp low high ≡ Less → with_member low (Some a) (with_member high (Some b) ms) ≡ both_set low a high b ms
high_first low high a b ms e =
    let m = member_with high b in
    let below = filter (is_before high) ms in
    let above = filter (is_after high) ms in
    let not_before : is_before low m ≡ false = ap (λ k. is_lt (cmp k low)) (keyed high b) ∙ ap is_lt (turned_back low high e) in
    let is_behind : is_after low m ≡ true = ap (λ k. is_gt (cmp k low)) (keyed high b) ∙ ap is_gt (turned_back low high e) in
    let front : filter (is_before low) (below ++ m ∷ above) ≡ filter (is_before low) ms ++ [] =
    parted (is_before low) below above m false not_before
    ∙ ap₂ (λ x y. x ++ y) (filter-narrow (is_before low) (is_before high) ms (before_low low high e)) (filter-none (is_before low) (is_after high) ms (high_not_before_low low high e)) in
    let back : filter (is_after low) (below ++ m ∷ above) ≡ filter (is_before high) (filter (is_after low) ms) ++ m ∷ above =
    parted (is_after low) below above m true is_behind
    ∙ ap₂ (λ x y. x ++ m ∷ y) (filter-comm (is_after low) (is_before high) ms) (filter-wide (is_after high) (is_after low) ms (after_high low high e)) in
    ap₂ (λ x y. x ++ member_with low a ∷ y) (front ∙ append-nil _) back

low_first : (low high : List ℕ) (a b : Tree) (ms : List Member) → cmp low high ≡ Less → with_member high (Some b) (with_member low (Some a) ms) ≡ both_set low a high b ms
low_first low high a b ms e =
    let m = member_with low a in
    let below = filter (is_before low) ms in
    let above = filter (is_after low) ms in
    let is_front : is_before high m ≡ true = ap (λ k. is_lt (cmp k high)) (keyed low a) ∙ ap is_lt e in
    let not_after : is_after high m ≡ false = ap (λ k. is_gt (cmp k high)) (keyed low a) ∙ ap is_gt e in
    let front : filter (is_before high) (below ++ m ∷ above) ≡ below ++ m ∷ filter (is_before high) above =
    parted (is_before high) below above m true is_front ∙ ap (λ x. x ++ m ∷ filter (is_before high) above) (filter-wide (is_before low) (is_before high) ms (before_low low high e)) in
    let back : filter (is_after high) (below ++ m ∷ above) ≡ [] ++ filter (is_after high) ms =
    parted (is_after high) below above m false not_after
    ∙ ap₂ (λ x y. x ++ y) (filter-none (is_after high) (is_before low) ms (low_not_after_high low high e)) (filter-narrow (is_after high) (is_after low) ms (after_high low high e)) in
    ap₂ (λ x y. x ++ member_with high b ∷ y) front back ∙ append_assoc below _ _

same_key : (a b : List ℕ) → cmp a b ≡ Equal → a ≡ b
same_key a b e = (bytes_eq-Decides a b).0 (sym (is_eq-slice_cmp a b) ∙ ap is_eq e)

by_order : (o : Ordering) (one two : List ℕ) (a b : Tree) (ms : List Member) → cmp one two ≡ o → one ≢ two → with_member one (Some a) (with_member two (Some b) ms) ≡ with_member two (Some b) (with_member one (Some a) ms)
by_order Less one two a b ms e differ = high_first one two a b ms e ∙ sym (low_first one two a b ms e)
by_order Equal one two a b ms e differ = absurd (differ (same_key one two e))
by_order Greater one two a b ms e differ = low_first two one b a ms (turned one two e) ∙ sym (high_first two one b a ms (turned one two e))

-- two keys may be set in either order
pub with_member-comm : (one two : List ℕ) (a b : Tree) (ms : List Member) → one ≢ two → with_member one (Some a) (with_member two (Some b) ms) ≡ with_member two (Some b) (with_member one (Some a) ms)
with_member-comm one two a b ms differ = by_order _ one two a b ms refl differ

-- ---- one key twice

itself : (k : List ℕ) → bytes_eq k k ≡ true
itself k = (bytes_eq-Decides k k).1 refl

equal : (o : Ordering) → is_eq o ≡ true → o ≡ Equal
equal Less h = cc
equal Equal h = refl
equal Greater h = cc

same_order : (k : List ℕ) (a : Tree) → cmp (key_of (member_with k a)) k ≡ Equal
same_order k a = ap (λ w. cmp w k) (keyed k a) ∙ equal _ (is_eq-slice_cmp k k ∙ itself k)

-- only the last value of a key counts
pub with_member-twice : (k : List ℕ) (a b : Tree) (ms : List Member) → with_member k (Some b) (with_member k (Some a) ms) ≡ with_member k (Some b) ms
with_member-twice k a b ms =
    let m = member_with k a in
    let below = filter (is_before k) ms in
    let above = filter (is_after k) ms in
    let front : filter (is_before k) (below ++ m ∷ above) ≡ below ++ [] =
    parted (is_before k) below above m false (ap is_lt (same_order k a))
    ∙ ap₂ (λ x y. x ++ y) (filter-narrow (is_before k) (is_before k) ms (λ n h. h)) (filter-none (is_before k) (is_after k) ms (λ n h. ap is_lt (greater _ h))) in
    let back : filter (is_after k) (below ++ m ∷ above) ≡ [] ++ above =
    parted (is_after k) below above m false (ap is_gt (same_order k a))
    ∙ ap₂ (λ x y. x ++ y) (filter-none (is_after k) (is_before k) ms (λ n h. ap is_gt (less _ h))) (filter-narrow (is_after k) (is_after k) ms (λ n h. h)) in
    ap₂ (λ x y. x ++ member_with k b ∷ y) (front ∙ append-nil _) back

-- ---- what stands at a key

abbrev found_or : Option Tree → Option Tree → Option Tree
found_or None later = later
found_or (Some t) later = Some t

at_append : (b : Bool) (value : Tree) (rest later : Option Tree) → cond b (Some value) (found_or rest later) ≡ found_or (cond b (Some value) rest) later
at_append true value rest later = refl
at_append false value rest later = refl

member_at-append : (q : List ℕ) (xs ys : List Member) → member_at q (xs ++ ys) ≡ found_or (member_at q xs) (member_at q ys)
member_at-append q [] ys = refl
member_at-append q (x ∷ xs) ys =
    ap (λ r. cond (bytes_eq (key_of x) q) (Some (out-Member x).value) r) (member_at-append q xs ys) ∙ at_append (bytes_eq (key_of x) q) _ (member_at q xs) (member_at q ys)

kept_at : (q : List ℕ) (m : Member) (rest : List Member) (here kept : Bool) (v : Option Tree) → bytes_eq (key_of m) q ≡ here → (here ≡ true → kept ≡ true) → member_at q rest ≡ v
    → member_at q (cond kept (m ∷ rest) rest) ≡ cond here (Some (out-Member m).value) v
kept_at q m rest here true v e h r = ap₂ (λ b o. cond b (Some (out-Member m).value) o) e r
kept_at q m rest true false v e h r = let x : false ≡ true = h refl in cc
kept_at q m rest false false v e h r = r

-- a filter that keeps the members of a key keeps what is found there
member_at-filter : (q : List ℕ) (p : Member → Bool) (ms : List Member) → ((m : Member) → bytes_eq (key_of m) q ≡ true → p m ≡ true) → member_at q (filter p ms) ≡ member_at q ms
member_at-filter q p [] h = refl
member_at-filter q p (m ∷ ms) h = kept_at q m (filter p ms) (bytes_eq (key_of m) q) (p m) _ refl (h m) (member_at-filter q p ms h)

lost_at : (q : List ℕ) (m : Member) (rest : List Member) (kept : Bool) → (kept ≡ true → bytes_eq (key_of m) q ≡ false) → member_at q rest ≡ None → member_at q (cond kept (m ∷ rest) rest) ≡ None
lost_at q m rest true h r = ap₂ (λ b o. cond b (Some (out-Member m).value) o) (h refl) r
lost_at q m rest false h r = r

member_at-filter-none : (q : List ℕ) (p : Member → Bool) (ms : List Member) → ((m : Member) → p m ≡ true → bytes_eq (key_of m) q ≡ false) → member_at q (filter p ms) ≡ None
member_at-filter-none q p [] h = refl
member_at-filter-none q p (m ∷ ms) h = lost_at q m (filter p ms) (p m) (h m) (member_at-filter-none q p ms h)

is_key : (q : List ℕ) (m : Member) → bytes_eq (key_of m) q ≡ true → key_of m ≡ q
is_key q m h = (bytes_eq-Decides (key_of m) q).0 h

unlike : (a b : List ℕ) (o : Ordering) → cmp a b ≡ o → is_eq o ≡ false → bytes_eq a b ≡ false
unlike a b o e h = sym (is_eq-slice_cmp a b) ∙ ap is_eq e ∙ h

before_unlike : (k q : List ℕ) (m : Member) → cmp k q ≡ Less → is_before k m ≡ true → bytes_eq (key_of m) q ≡ false
before_unlike k q m e h = unlike (key_of m) q Less (nat_list_cmp_total.trans (key_of m) k q (less _ h) e) refl

after_unlike : (k q : List ℕ) (m : Member) → cmp q k ≡ Less → is_after k m ≡ true → bytes_eq (key_of m) q ≡ false
after_unlike k q m e h = unlike (key_of m) q Greater (turned_back q (key_of m) (nat_list_cmp_total.trans q k (key_of m) e (turned (key_of m) k (greater _ h)))) refl

new_unlike : (k q : List ℕ) (value : Option Tree) → bytes_eq k q ≡ false → member_at q (member_of k value) ≡ None
new_unlike k q None h = refl
new_unlike k q (Some v) h = ap (λ b. cond b (Some (out-Member (member_with k v)).value) None) (ap (λ w. bytes_eq w q) (keyed k v) ∙ h)

or_none : (o : Option Tree) → found_or o None ≡ o
or_none None = refl
or_none (Some t) = refl

other_at : (o : Ordering) (k q : List ℕ) (value : Option Tree) (ms : List Member) → cmp k q ≡ o → bytes_eq k q ≡ false → member_at q (with_member k value ms) ≡ member_at q ms
other_at Greater k q value ms e h =
    member_at-append q (filter (is_before k) ms) _
    ∙ ap₂ found_or (member_at-filter q (is_before k) ms (λ m n. ap (λ w. is_lt (cmp w k)) (is_key q m n) ∙ ap is_lt (turned k q e)))
    (member_at-append q (member_of k value) _ ∙ ap₂ found_or (new_unlike k q value h) (member_at-filter-none q (is_after k) ms (λ m n. after_unlike k q m (turned k q e) n)))
    ∙ or_none (member_at q ms)
other_at Equal k q value ms e h = let x : is_eq Equal ≡ false = ap is_eq (sym e) ∙ is_eq-slice_cmp k q ∙ h in cc
other_at Less k q value ms e h =
    member_at-append q (filter (is_before k) ms) _
    ∙ ap₂ found_or (member_at-filter-none q (is_before k) ms (λ m n. before_unlike k q m e n))
    (member_at-append q (member_of k value) _ ∙ ap₂ found_or (new_unlike k q value h) (member_at-filter q (is_after k) ms (λ m n. ap (λ w. is_gt (cmp w k)) (is_key q m n) ∙ ap is_gt (turned_back k q e))))

-- the other keys keep what they have
pub member_at-with_member-other : (k q : List ℕ) (value : Option Tree) (ms : List Member) → bytes_eq k q ≡ false → member_at q (with_member k value ms) ≡ member_at q ms
member_at-with_member-other k q value ms h = other_at _ k q value ms refl h

-- the key has what it is set to
pub member_at-with_member-same : (k : List ℕ) (v : Tree) (ms : List Member) → member_at k (with_member k (Some v) ms) ≡ Some v
member_at-with_member-same k v ms =
    member_at-append k (filter (is_before k) ms) _
    ∙ ap₂ found_or (member_at-filter-none k (is_before k) ms (λ m h. unlike (key_of m) k Less (less _ h) refl))
    (ap₂ (λ b w. cond b (Some w) (member_at k (filter (is_after k) ms))) (ap (λ w. bytes_eq w k) (keyed k v) ∙ itself k) (valued k v))

-- the key has nothing where it is taken away
pub member_at-with_member-none : (k : List ℕ) (ms : List Member) → member_at k (with_member k None ms) ≡ None
member_at-with_member-none k ms =
    member_at-append k (filter (is_before k) ms) _
    ∙ ap₂ found_or (member_at-filter-none k (is_before k) ms (λ m h. unlike (key_of m) k Less (less _ h) refl)) (member_at-filter-none k (is_after k) ms (λ m h. unlike (key_of m) k Greater (greater _ h) refl))
