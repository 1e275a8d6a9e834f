-- What is told and kept while keys are taken and given back.
use Rattle.std.proofs.Common.{◌≡◌, ℕ, Bool, true, false, cond, List, [], ◌∷◌, ◌++◌, refl, sym, ap, ◌∙◌, append_assoc, subst, Some, None, Ok, Err, Option, map, reverse, option_map, is_some, ◌==◌, eq-eqb}
use Rattle.std.proofs.lemmas.List.{append-nil, reverse-append}
use Rattle.cd_outside.specs.declared.key.Key.{Key}
use Rattle.cd_outside.specs.declared.holder.Holder.{Holder}
use Rattle.cd_outside.specs.declared.holder.Pair.{Pair}
use Rattle.cd_outside.specs.declared.fixtures.FixtureCall.{FixtureCall}
use Rattle.cd_outside.specs.declared.fixtures.FixtureCall.TheVariants.{Opened, NotOpened, Closed}
use Rattle.cd_outside.specs.Keys.{has_key, keys_in, keys_of, pairs_for, without_holder, holder_eq, fresh_keys}
use Rattle.cd_outside.specs.FixtureCall.{CallsGrow}
use Rattle.cd_outside.proofs.KeyLemmas.{fresh_keys-append, keys_in-append, keys_in-pairs_for, pairs_for-append, holder_eq-same, has_key-split, without_none}
use Rattle.cd_pool.specs.declared.lease.Leased.{Leased}
use Rattle.cd_pool.specs.Pairs.{pairs, leases_of, pair_at, GivesLast}
use Rattle.cd_pool.proofs.Giving.{keys_none}
use Rattle.cd_legal.specs.Calls.{takings}
use Rattle.cd_desk.specs.Instances.{Acquires, Taken, Given, Gives, Takes, Releases}

joined : (a b : Option (List FixtureCall)) (cs xs ys : List FixtureCall) → CallsGrow a xs b → option_map (λ z. z ++ ys) b ≡ Some cs → option_map (λ z. z ++ (xs ++ ys)) a ≡ Some cs
joined a None cs xs ys p q = cc
joined None (Some bs) cs xs ys p q = cc
joined (Some as_) (Some bs) cs xs ys p q = let e : as_ ++ xs ≡ bs = cc in let f : bs ++ ys ≡ cs = cc in ap (λ z. Some z) (sym (append_assoc as_ xs ys) ∙ (ap (λ z. z ++ ys) e ∙ f))

pub calls_join : (a b c : Option (List FixtureCall)) (xs ys : List FixtureCall) → CallsGrow a xs b → CallsGrow b ys c → CallsGrow a (xs ++ ys) c
calls_join a b None xs ys p q = tt
calls_join a b (Some cs) xs ys p q = joined a b cs xs ys p q

told_same : (a : Option (List FixtureCall)) (cs : List FixtureCall) → a ≡ Some cs → option_map (λ z. z ++ []) a ≡ Some cs
told_same None cs e = cc
told_same (Some bs) cs e = ap (λ z. Some z) (append-nil bs ∙ (let f : bs ≡ cs = cc in f))

pub calls_none : (a : Option (List FixtureCall)) → CallsGrow a [] a
calls_none None = tt
calls_none (Some cs) = told_same (Some cs) cs refl

pub pairs-append : (xs ys : List Leased) → pairs (xs ++ ys) ≡ pairs xs ++ pairs ys
pairs-append [] ys = refl
pairs-append (x ∷ xs) ys = ap (λ z. x.pair ∷ z) (pairs-append xs ys)

pick : (b : Bool) (n : ℕ) (xs ys : List ℕ) → cond b (n ∷ (xs ++ ys)) (xs ++ ys) ≡ cond b (n ∷ xs) xs ++ ys
pick true n xs ys = refl
pick false n xs ys = refl

pub leases_of-append : (g : Holder) (xs ys : List Leased) → leases_of g (xs ++ ys) ≡ leases_of g xs ++ leases_of g ys
leases_of-append g [] ys = refl
leases_of-append g (x ∷ xs) ys = ap (λ z. cond (holder_eq g x.pair.holder) (x.number ∷ z) z) (leases_of-append g xs ys) ∙ pick (holder_eq g x.pair.holder) x.number (leases_of g xs) (leases_of g ys)

map-append : (f : Key → FixtureCall) (xs ys : List Key) → map f (xs ++ ys) ≡ map f xs ++ map f ys
map-append f [] ys = refl
map-append f (x ∷ xs) ys = ap (λ z. f x ∷ z) (map-append f xs ys)

pub keys_taken : (ps : List Pair) (h : Holder) (ks : List Key) → keys_in (ps ++ pairs_for h ks) ≡ keys_in ps ++ ks
keys_taken ps h ks = keys_in-append ps (pairs_for h ks) ∙ ap (λ z. keys_in ps ++ z) (keys_in-pairs_for h ks)

-- taking one key more
takings_more : (ps : List Pair) (h : Holder) (done : List Key) (key : Key) → takings ps (done ++ key ∷ []) ≡ takings ps done ++ takings (ps ++ pairs_for h done) (key ∷ [])
takings_more ps h done key =
    ap (map (λ k. Opened k)) (fresh_keys-append (keys_in ps) done (key ∷ [])) ∙ (map-append (λ k. Opened k) (fresh_keys (keys_in ps) done) (fresh_keys (keys_in ps ++ done) (key ∷ []))
    ∙ ap (λ z. takings ps done ++ map (λ k. Opened k) (fresh_keys z (key ∷ []))) (sym (keys_taken ps h done)))

pub taken_none : (h : Holder) (old : List Leased) (before : Option (List FixtureCall)) (leases : List ℕ) → leases ≡ [] → leases_of h old ≡ [] → Taken h [] old old [] before before leases
taken_none h old before leases none free = record {
  added = sym (append-nil (pairs old));
  calls = calls_none before;
  leases = none ∙ sym free;
  others = λ g ne. refl;
}

pub take_more : (h : Holder) (done : List Key) (old mid new : List Leased) (b m a : Option (List FixtureCall)) (leases leases' : List ℕ) (key : Key) (lease : ℕ)
    → leases' ≡ leases ++ lease ∷ [] → Taken h done old mid [] b m leases → Acquires key h mid new m a (Ok lease) → Taken h (done ++ key ∷ []) old new [] b a leases'
take_more h done old mid new b m a leases leases' key lease placed t q =
    let one : Leased = record { number = lease; pair = record { key = key; holder = h } } in
    record {
      added = ap pairs q.0 ∙ (pairs-append mid (one ∷ []) ∙ (ap (λ z. z ++ record { key = key; holder = h } ∷ []) t.added ∙ (append_assoc (pairs old) (pairs_for h done) (record { key = key; holder = h } ∷ []) ∙ ap (λ z. pairs old ++ z) (sym (pairs_for-append h done (key ∷ []))))));
      calls = subst (λ z. CallsGrow b z a) (ap (λ z. z ++ takings (pairs mid) (key ∷ [])) (append-nil (takings (pairs old) done)) ∙ (ap (λ z. takings (pairs old) done ++ takings z (key ∷ [])) t.added ∙ (sym (takings_more (pairs old) h done key) ∙ sym (append-nil (takings (pairs old) (done ++ key ∷ [])))))) (calls_join b m a (takings (pairs old) done ++ []) (takings (pairs mid) (key ∷ [])) t.calls q.1);
      leases = placed ∙ (ap (λ z. z ++ lease ∷ []) t.leases ∙ (ap (λ z. leases_of h mid ++ z) (sym (mine h)) ∙ (sym (leases_of-append h mid (one ∷ [])) ∙ ap (leases_of h) (sym q.0))));
      others = λ g ne. ap (leases_of g) q.0 ∙ (leases_of-append g mid (one ∷ []) ∙ (ap (λ z. leases_of g mid ++ z) (not_mine g h ne) ∙ (append-nil (leases_of g mid) ∙ t.others g ne)));
    }
  where
    mine : (h : Holder) → cond (holder_eq h h) (lease ∷ []) [] ≡ lease ∷ []
    mine h = rw (holder_eq-same h) refl

    not_mine : (g h : Holder) → holder_eq g h ≡ false → cond (holder_eq g h) (lease ∷ []) [] ≡ []
    not_mine g h ne = rw ne refl

pub take_fails : (h : Holder) (done rest keys : List Key) (old mid new : List Leased) (b m a : Option (List FixtureCall)) (leases : List ℕ) (key failed : Key)
    → keys ≡ done ++ key ∷ rest → Taken h done old mid [] b m leases → Acquires key h mid new m a (Err failed) → Takes keys h old new b a leases (Err failed)
take_fails h done rest keys old mid new b m a leases key failed split t q = (
  done,
  (rest, split ∙ ap (λ z. done ++ z ∷ rest) (sym q.0), sym (ap (λ z. has_key failed z) (ap keys_in t.added ∙ keys_taken (pairs old) h done)) ∙ (ap (λ z. has_key z (keys_in (pairs mid))) q.0 ∙ q.2)),
  record {
    added = ap pairs q.1 ∙ t.added;
    calls = subst (λ z. CallsGrow b z a) (ap (λ z. z ++ NotOpened key ∷ []) (append-nil (takings (pairs old) done)) ∙ ap (λ z. takings (pairs old) done ++ NotOpened z ∷ []) (sym q.0)) (calls_join b m a (takings (pairs old) done ++ []) (NotOpened key ∷ []) t.calls q.3);
    leases = t.leases ∙ ap (leases_of h) (sym q.1);
    others = λ g ne. ap (leases_of g) q.1 ∙ t.others g ne;
  },
)

closes : (b : Bool) (k : Key) (ks : List Key) (x m a : Option (List FixtureCall)) → CallsGrow x (map (λ k. Closed k) (reverse ks)) m → CallsGrow m (cond b [] (Closed k ∷ [])) a → CallsGrow x (map (λ k. Closed k) (reverse (cond b ks (k ∷ ks)))) a
closes true k ks x m a p q = subst (λ z. CallsGrow x z a) (append-nil (map (λ k. Closed k) (reverse ks))) (calls_join x m a (map (λ k. Closed k) (reverse ks)) [] p q)
closes false k ks x m a p q = subst (λ z. CallsGrow x z a) (sym (ap (map (λ k. Closed k)) (reverse-append (k ∷ []) ks) ∙ map-append (λ k. Closed k) (reverse ks) (k ∷ []))) (calls_join x m a (map (λ k. Closed k) (reverse ks)) (Closed k ∷ []) p q)

pub given_none : (h : Holder) (old : List Leased) (before : Option (List FixtureCall)) (ls : List ℕ) → ls ≡ leases_of h old → Given h [] old old before before ls
given_none h old before ls free = record {
  keys = sym (append-nil (keys_of h (pairs old)));
  rest = refl;
  calls = calls_none before;
  leases = free;
  others = λ g ne. refl;
}

pub last_lease : (h : Holder) (mid : List Leased) (ls ls' : List ℕ) (lease : ℕ) → ls ≡ ls' ++ lease ∷ [] → ls ≡ leases_of h mid → leases_of h mid ≡ ls' ++ lease ∷ []
last_lease h mid ls ls' lease popped free = sym free ∙ popped

pub give_more : (h : Holder) (back : List Key) (old mid new : List Leased) (b m a : Option (List FixtureCall)) (ls ls' : List ℕ) (lease : ℕ)
    → Given h back old mid b m ls → (g : GivesLast h ls' lease mid new) → CallsGrow m (cond (has_key g.key (keys_in (pairs new))) [] (Closed g.key ∷ [])) a → Given h (g.key ∷ back) old new b a ls'
give_more h back old mid new b m a ls ls' lease t g calls =
    let others : List Key = keys_in (without_holder h (pairs old)) in
    let had : List Key = others ++ keys_of h (pairs new) in
    let same : has_key g.key had ≡ has_key g.key (keys_in (pairs new)) = sym (has_key-split g.key h (pairs new) ∙ ap (λ z. has_key g.key (keys_in z ++ keys_of h (pairs new))) (g.rest ∙ t.rest)) in
    let longer : others ++ keys_of h (pairs mid) ≡ had ++ g.key ∷ [] = ap (λ z. others ++ z) g.keys ∙ sym (append_assoc others (keys_of h (pairs new)) (g.key ∷ [])) in
    record {
      keys = t.keys ∙ (ap (λ z. z ++ back) g.keys ∙ append_assoc (keys_of h (pairs new)) (g.key ∷ []) back);
      rest = g.rest ∙ t.rest;
      calls = closes (has_key g.key had) g.key (fresh_keys (had ++ g.key ∷ []) back) b m a (subst (λ z. CallsGrow b (map (λ k. Closed k) (reverse (fresh_keys z back))) m) longer t.calls) (subst (λ z. CallsGrow m (cond z [] (Closed g.key ∷ [])) a) (sym same) calls);
      leases = sym g.leases;
      others = λ k ne. g.others k ne ∙ t.others k ne;
    }

pub given_all : (h : Holder) (back : List Key) (old new : List Leased) (b a : Option (List FixtureCall)) (ls : List ℕ) → ls ≡ [] → Given h back old new b a ls → Gives h old new b a
given_all h back old new b a ls empty t =
    let none : leases_of h new ≡ [] = sym t.leases ∙ empty in
    let no_keys : keys_of h (pairs new) ≡ [] = keys_none h new none in
    let all : keys_of h (pairs old) ≡ back = t.keys ∙ ap (λ z. z ++ back) no_keys in
    record {
      left = sym (without_none h (pairs new) no_keys) ∙ t.rest;
      calls = subst (λ z. CallsGrow b (map (λ k. Closed k) (reverse (fresh_keys (keys_in (without_holder h (pairs old))) z))) a) (sym all) (subst (λ z. CallsGrow b (map (λ k. Closed k) (reverse (fresh_keys z back))) a) (ap (λ z. keys_in (without_holder h (pairs old)) ++ z) no_keys ∙ append-nil (keys_in (without_holder h (pairs old)))) t.calls);
      none = none;
      others = t.others;
    }

pub popped : (keys done ws ws' : List Key) (k : Key) → keys ≡ done ++ reverse ws → ws ≡ ws' ++ k ∷ [] → keys ≡ done ++ k ∷ reverse ws'
popped keys done ws ws' k e f = e ∙ ap (λ z. done ++ z) (ap reverse f ∙ reverse-append ws' (k ∷ []))

pub popped_on : (keys done ws ws' : List Key) (k : Key) → keys ≡ done ++ reverse ws → ws ≡ ws' ++ k ∷ [] → keys ≡ (done ++ k ∷ []) ++ reverse ws'
popped_on keys done ws ws' k e f = popped keys done ws ws' k e f ∙ sym (append_assoc done (k ∷ []) (reverse ws'))

pub releases_at : (p : Option Pair) (q : Pair) (new : List Leased) (b a : Option (List FixtureCall)) → p ≡ Some q → Releases p new b a → CallsGrow b (cond (has_key q.key (keys_in (pairs new))) [] (Closed q.key ∷ [])) a
releases_at p q new b a e r = subst (λ z. Releases z new b a) e r

-- the first lease, for the lemma below
named_first : (h : Holder) (n : ℕ) (x : Leased) (xs : List Leased) (b d : Bool) → (x.number == n) ≡ b → ((ns : List ℕ) → leases_of h xs ≡ ns ++ n ∷ [] → is_some (pair_at n xs) ≡ true) → (ns : List ℕ) → cond d (x.number ∷ leases_of h xs) (leases_of h xs) ≡ ns ++ n ∷ [] → is_some (cond b (Some x.pair) (pair_at n xs)) ≡ true
named_first h n x xs true d eb rec ns e = refl
named_first h n x xs false true eb rec [] e = let same : x.number ≡ n = cc in let t = eq-eqb x.number n same in cc
named_first h n x xs false true eb rec (m ∷ ns) e = rec ns cc
named_first h n x xs false false eb rec ns e = rec ns e

-- the last lease of a holder names a pair
pub last_named : (h : Holder) (n : ℕ) (xs : List Leased) (ns : List ℕ) → leases_of h xs ≡ ns ++ n ∷ [] → is_some (pair_at n xs) ≡ true
last_named h n [] [] e = cc
last_named h n [] (m ∷ ns) e = cc
last_named h n (x ∷ xs) ns e = named_first h n x xs (x.number == n) (holder_eq h x.pair.holder) refl (last_named h n xs) ns e
