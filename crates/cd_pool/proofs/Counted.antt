-- How many leases have keys of a hash, after a take and a give.
use Rattle.std.proofs.Common.{◌≡◌, ℕ, ◌+◌, ◌==◌, Bool, true, false, ◌||◌, cond, List, [], ◌∷◌, ◌++◌, nat_eq, refl, sym, ap, ◌∙◌, arith, Some, eq-eqb}
use Rattle.std.specs.HashMap.{HashMap, get}
use Rattle.std.proofs.lemmas.Bool.{eqb-true}
use Rattle.cd_outside.specs.declared.key.Key.{Key}
use Rattle.cd_outside.specs.declared.key.Key.TheVariants.{Listen, Writer}
use Rattle.cd_outside.specs.declared.holder.Pair.{Pair}
use Rattle.cd_outside.specs.Keys.{key_eq, has_key, keys_in}
use Rattle.std.specs.Str.{bytes_eq}
use Rattle.std.proofs.lemmas.Slice.Eq.{bytes_eq-Decides}
use Rattle.cd_outside.proofs.KeyLemmas.{and-left, and-right}
use Rattle.cd_pool.specs.declared.hashes.Seen.{Seen}
use Rattle.cd_pool.specs.declared.lease.Leased.{Leased}
use Rattle.cd_pool.specs.Hashes.{hash_of, hashed, mixed, counted, hits, AreCounted}
use Rattle.cd_pool.specs.declared.hashes.TheConstants.{BASIS}
use Rattle.cd_pool.specs.Pairs.{pairs, pair_at, without}

-- the same key has the same hash
same_hash : (k l : Key) → key_eq k l ≡ true → hash_of k ≡ hash_of l
same_hash (Listen a) (Listen b) e =
    ap (λ host. mixed (hashed BASIS host) a.port) ((bytes_eq-Decides a.host b.host).0 (and-left (bytes_eq a.host b.host) (a.port == b.port) e))
    ∙ ap (λ port. mixed (hashed BASIS b.host) port) (eqb-true a.port b.port (and-right (bytes_eq a.host b.host) (a.port == b.port) e))
same_hash (Listen a) (Writer b) e = cc
same_hash (Writer a) (Listen b) e = cc
same_hash (Writer a) (Writer b) e = ap (hashed BASIS) ((bytes_eq-Decides a b).0 e)

-- the first lease, for the lemma below
first : (k : Key) (h : Leased) (hs : List Leased) (d : Bool) → key_eq k h.pair.key ≡ d → (hits (hash_of k) hs ≡ 0 → has_key k (keys_in (pairs hs)) ≡ false) → cond (hash_of h.pair.key == hash_of k) (1 + hits (hash_of k) hs) (hits (hash_of k) hs) ≡ 0
    → (d || has_key k (keys_in (pairs hs))) ≡ false
first k h hs true same rec none =
    let hash : (hash_of h.pair.key == hash_of k) ≡ true = eq-eqb (hash_of h.pair.key) (hash_of k) (sym (same_hash k h.pair.key same)) in
    let one : 1 + hits (hash_of k) hs ≡ 0 = sym (ap (λ b. cond b (1 + hits (hash_of k) hs) (hits (hash_of k) hs)) hash) ∙ none in
    absurd (omega arith)
first k h hs false same rec none = rec (rest (hash_of h.pair.key == hash_of k) none)
  where
    rest : (b : Bool) → cond b (1 + hits (hash_of k) hs) (hits (hash_of k) hs) ≡ 0 → hits (hash_of k) hs ≡ 0
    rest true e = absurd (omega arith)
    rest false e = e

-- a key whose hash no lease has is not held
pub unseen : (k : Key) (hs : List Leased) → hits (hash_of k) hs ≡ 0 → has_key k (keys_in (pairs hs)) ≡ false
unseen k [] none = refl
unseen k (h ∷ hs) none = first k h hs (key_eq k h.pair.key) refl (unseen k hs) none

-- the order of two leases does not count
turned : (b d : Bool) (n : ℕ) → cond b (1 + cond d (1 + n) n) (cond d (1 + n) n) ≡ cond d (1 + cond b (1 + n) n) (cond b (1 + n) n)
turned true true n = refl
turned true false n = refl
turned false true n = refl
turned false false n = refl

hits-push : (q : ℕ) (hs : List Leased) (h : Leased) → hits q (hs ++ h ∷ []) ≡ cond (hash_of h.pair.key == q) (1 + hits q hs) (hits q hs)
hits-push q [] h = refl
hits-push q (g ∷ hs) h = ap (λ n. cond (hash_of g.pair.key == q) (1 + n) n) (hits-push q hs h) ∙ turned (hash_of g.pair.key == q) (hash_of h.pair.key == q) (hits q hs)

-- the first lease, for the lemma below
given : (q n : ℕ) (p : Pair) (h : Leased) (hs : List Leased) (b : Bool) → (pair_at n hs ≡ Some p → hits q hs ≡ cond (hash_of p.key == q) (1 + hits q (without n hs)) (hits q (without n hs))) → cond b (Some h.pair) (pair_at n hs) ≡ Some p
    → cond (hash_of h.pair.key == q) (1 + hits q hs) (hits q hs) ≡ cond (hash_of p.key == q) (1 + hits q (cond b hs (h ∷ without n hs))) (hits q (cond b hs (h ∷ without n hs)))
given q n p h hs true rec is = let same : h.pair ≡ p = cc in ap (λ (z : Pair). cond (hash_of z.key == q) (1 + hits q hs) (hits q hs)) same
given q n p h hs false rec is = ap (λ m. cond (hash_of h.pair.key == q) (1 + m) m) (rec is) ∙ turned (hash_of h.pair.key == q) (hash_of p.key == q) (hits q (without n hs))

hits-without : (q n : ℕ) (p : Pair) (hs : List Leased) → pair_at n hs ≡ Some p → hits q hs ≡ cond (hash_of p.key == q) (1 + hits q (without n hs)) (hits q (without n hs))
hits-without q n p [] is = cc
hits-without q n p (h ∷ hs) is = given q n p h hs (h.number == n) (hits-without q n p hs) is

-- after a take
pub counted_push : {S : Type 0} (old new : HashMap ℕ Seen S) (held held' : List Leased) (h : Leased) (hash : ℕ) → hash ≡ hash_of h.pair.key → held' ≡ held ++ h ∷ []
    → ((q : ℕ) → counted (get nat_eq new q) ≡ cond (hash == q) (1 + counted (get nat_eq old q)) (counted (get nat_eq old q))) → AreCounted old held → AreCounted new held'
counted_push old new held held' h hash is added noted before q =
    noted q ∙ ap (λ n. cond (hash == q) (1 + n) n) (before q) ∙ ap (λ z. cond (z == q) (1 + hits q held) (hits q held)) is ∙ sym (ap (hits q) added ∙ hits-push q held h)

-- after a give
less : (b : Bool) (m n : ℕ) → cond b (1 + m) m ≡ cond b (1 + n) n → m ≡ n
less true m n e = omega arith
less false m n e = e

pub counted_without : {S : Type 0} (old new : HashMap ℕ Seen S) (held held' : List Leased) (n : ℕ) (p : Pair) (hash : ℕ) → hash ≡ hash_of p.key → pair_at n held ≡ Some p → held' ≡ without n held
    → ((q : ℕ) → counted (get nat_eq old q) ≡ cond (hash == q) (1 + counted (get nat_eq new q)) (counted (get nat_eq new q))) → AreCounted old held → AreCounted new held'
counted_without old new held held' n p hash is named removed noted before q =
    let both = sym (noted q) ∙ before q ∙ hits-without q n p held named ∙ ap (λ z. cond (z == q) (1 + hits q (without n held)) (hits q (without n held))) (sym is) in
    less (hash == q) (counted (get nat_eq new q)) (hits q (without n held)) both ∙ sym (ap (hits q) removed)

-- after a reservation
pub counted_same : {S : Type 0} (old new : HashMap ℕ Seen S) (held held' : List Leased) → held' ≡ held → ((q : ℕ) → get nat_eq new q ≡ get nat_eq old q) → AreCounted old held → AreCounted new held'
counted_same old new held held' same keeps before q = ap counted (keeps q) ∙ before q ∙ sym (ap (hits q) same)
