-- One key more, and what it says of those before.
use Rattle.std.proofs.Common.{◌≡◌, ℕ, ◌+◌, ◌<◌, ◌==◌, ◌&&◌, ◌||◌, nat_lt, Bool, true, false, cond, not, List, [], length, get_or, take, refl, sym, ap, ◌∙◌, arith, eqb-true, Option, Some, None}
use Rattle.std.proofs.lemmas.List.Folds.{list_any_more}
use Rattle.std.proofs.lemmas.Map.Text.{is_eq-slice_cmp}
use borrow.Author.Tests.{ltb-true}
use Rattle.std.specs.BTreeSet.{BTreeSet, contains}
use Rattle.std.specs.Cmp.Lexicographic.{slice_cmp}
use Rattle.std.specs.List.{list_any}
use Rattle.std.specs.Option.{option_cmp}
use Rattle.std.specs.Ordering.{nat_cmp, ordering_then, is_eq}
use Rattle.std.specs.Str.{bytes_eq}
use Rattle.std.specs.declared.cmp.Ordering.{Ordering}
use Rattle.std.specs.declared.cmp.Ordering.TheVariants.{Less, Equal, Greater}
use denote.Ref.{Bor}
use Rattle.cd_caddyfile.specs.Faults.{same_host, same_address, same_matcher}
use Rattle.cd_caddyfile.specs.Keys.{MatcherKey, has_name, HasNames, SiteKey, host_in, has_address, HasAddresses}
use Rattle.cd_caddyfile.specs.declared.named.Located.{Located}
use Rattle.cd_caddyfile.specs.declared.named.Named.{Named}

-- ---- equal keys

then_eq : (a b : Ordering) → is_eq (ordering_then a b) ≡ (is_eq a && is_eq b)
then_eq Less b = refl
then_eq Equal b = refl
then_eq Greater b = refl

number_here : (x y : ℕ) (less same : Bool) → nat_lt x y ≡ less → (x == y) ≡ same → is_eq (cond less Less (cond same Equal Greater)) ≡ same
number_here x y true true a b = absurd (omega (arith, ltb-true x y a, eqb-true x y b))
number_here x y true false a b = refl
number_here x y false true a b = refl
number_here x y false false a b = refl

number_eq : (x y : ℕ) → is_eq (nat_cmp x y) ≡ (x == y)
number_eq x y = number_here x y (nat_lt x y) (x == y) refl refl

host_eq : (a b : Option (Bor (List ℕ))) → is_eq (option_cmp (λ x y. slice_cmp nat_cmp x.now y.now) a b) ≡ same_host (host_in a) (host_in b)
host_eq None None = refl
host_eq None (Some b) = refl
host_eq (Some a) None = refl
host_eq (Some a) (Some b) = is_eq-slice_cmp a.now b.now

both : (a b c d : Bool) → a ≡ c → b ≡ d → (a && b) ≡ (c && d)
both a b c d p q = ap (λ x. x && b) p ∙ ap (λ x. c && x) q

or_first : (b c : Bool) → cond b true c ≡ (c || b)
or_first true true = refl
or_first true false = refl
or_first false true = refl
or_first false false = refl

pub not_not : (b : Bool) → not (not b) ≡ b
not_not true = refl
not_not false = refl

-- ---- one more

-- of a key, and of what it is the key of
more : {A : Type 0} (p : A → Bool) (all : List A) (i : ℕ) (d : A) (same old new : Bool) → i < length all → same ≡ p (get_or all i d) → old ≡ list_any p (take i all) →
    new ≡ cond same true old → new ≡ list_any p (take (i + 1) all)
more p all i d same old new within same-is old-is new-is =
    new-is ∙ (or_first same old ∙ (ap (λ o. o || same) old-is ∙ (ap (λ s. list_any p (take i all) || s) same-is ∙ sym (list_any_more p all i d within))))

pub names_more : (old new : BTreeSet MatcherKey) (all : List Named) (i : ℕ) (d : Named) (k : MatcherKey) → i < length all → k.0 ≡ (get_or all i d).site → k.1.now ≡ (get_or all i d).name →
    HasNames old (take i all) →
    ((q : MatcherKey) → contains (λ x y. ordering_then (nat_cmp x.0 y.0) (slice_cmp nat_cmp x.1.now y.1.now)) new q
    ≡ cond (is_eq (ordering_then (nat_cmp k.0 q.0) (slice_cmp nat_cmp k.1.now q.1.now))) true (contains (λ x y. ordering_then (nat_cmp x.0 y.0) (slice_cmp nat_cmp x.1.now y.1.now)) old q)) →
    HasNames new (take (i + 1) all)
names_more old new all i d k within site-is name-is known step = λ q. more (has_name q) all i d _ _ _ within
    (then_eq (nat_cmp k.0 q.0) (slice_cmp nat_cmp k.1.now q.1.now)
    ∙ both _ _ ((get_or all i d).site == q.0) (bytes_eq (get_or all i d).name q.1.now)
    (number_eq k.0 q.0 ∙ ap (λ s. s == q.0) site-is) (is_eq-slice_cmp k.1.now q.1.now ∙ ap (λ n. bytes_eq n q.1.now) name-is))
    (known q) (step q)

pub name_known : (old : BTreeSet MatcherKey) (all : List Named) (m : Named) (k : MatcherKey) → k.0 ≡ m.site → k.1.now ≡ m.name → HasNames old all →
    contains (λ x y. ordering_then (nat_cmp x.0 y.0) (slice_cmp nat_cmp x.1.now y.1.now)) old k ≡ list_any (λ (other : Named). same_matcher other m) all
name_known old all m k site-is name-is known =
    known k ∙ (ap (λ s. list_any (λ (other : Named). other.site == s && bytes_eq other.name k.1.now) all) site-is
    ∙ ap (λ n. list_any (λ (other : Named). other.site == m.site && bytes_eq other.name n) all) name-is)

pub addresses_more : (old new : BTreeSet SiteKey) (all : List Located) (i : ℕ) (d : Located) (k : SiteKey) → i < length all → k.0 ≡ (get_or all i d).address.port → host_in k.1 ≡ (get_or all i d).address.host →
    HasAddresses old (take i all) →
    ((q : SiteKey) → contains (λ x y. ordering_then (nat_cmp x.0 y.0) (option_cmp (λ a b. slice_cmp nat_cmp a.now b.now) x.1 y.1)) new q
    ≡ cond (is_eq (ordering_then (nat_cmp k.0 q.0) (option_cmp (λ a b. slice_cmp nat_cmp a.now b.now) k.1 q.1))) true
    (contains (λ x y. ordering_then (nat_cmp x.0 y.0) (option_cmp (λ a b. slice_cmp nat_cmp a.now b.now) x.1 y.1)) old q)) →
    HasAddresses new (take (i + 1) all)
addresses_more old new all i d k within port-is host-is known step = λ q. more (has_address q) all i d _ _ _ within
    (then_eq (nat_cmp k.0 q.0) (option_cmp (λ a b. slice_cmp nat_cmp a.now b.now) k.1 q.1)
    ∙ both _ _ ((get_or all i d).address.port == q.0) (same_host (get_or all i d).address.host (host_in q.1))
    (number_eq k.0 q.0 ∙ ap (λ s. s == q.0) port-is) (host_eq k.1 q.1 ∙ ap (λ h. same_host h (host_in q.1)) host-is))
    (known q) (step q)

pub address_known : (old : BTreeSet SiteKey) (all : List Located) (s : Located) (k : SiteKey) → k.0 ≡ s.address.port → host_in k.1 ≡ s.address.host → HasAddresses old all →
    contains (λ x y. ordering_then (nat_cmp x.0 y.0) (option_cmp (λ a b. slice_cmp nat_cmp a.now b.now) x.1 y.1)) old k ≡ list_any (λ (other : Located). same_address other.address s.address) all
address_known old all s k port-is host-is known =
    known k ∙ (ap (λ p. list_any (λ (other : Located). other.address.port == p && same_host other.address.host (host_in k.1)) all) port-is
    ∙ ap (λ h. list_any (λ (other : Located). other.address.port == s.address.port && same_host other.address.host h) all) host-is)

-- ---- no key yet

pub no_names : (keys : BTreeSet MatcherKey) → keys.keys ≡ [] → HasNames keys []
no_names keys none = λ q. ap (λ ks. list_any (λ k. is_eq (ordering_then (nat_cmp q.0 k.0) (slice_cmp nat_cmp q.1.now k.1.now))) ks) none

pub no_addresses : (keys : BTreeSet SiteKey) → keys.keys ≡ [] → HasAddresses keys []
no_addresses keys none = λ q. ap (λ ks. list_any (λ k. is_eq (ordering_then (nat_cmp q.0 k.0) (option_cmp (λ a b. slice_cmp nat_cmp a.now b.now) q.1 k.1))) ks) none
