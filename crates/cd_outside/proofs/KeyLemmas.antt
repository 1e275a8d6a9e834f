-- The tests of keys and holders, and lists of keys.
use Rattle.std.proofs.Common.{◌≡◌, ℕ, ◌==◌, Bool, true, false, ◌&&◌, ◌||◌, not, cond, filter, List, [], ◌∷◌, ◌++◌, refl, sym, ap, ◌∙◌, append_assoc, eq-eqb}
use Rattle.std.specs.Str.{bytes_eq}
use Rattle.std.proofs.lemmas.Bool.{eqb-true}
use Rattle.std.proofs.lemmas.Slice.Eq.{bytes_eq-Decides}
use Rattle.std.proofs.lemmas.List.{append-nil}
use Rattle.cd_outside.specs.declared.key.Key.{Key}
use Rattle.cd_outside.specs.declared.key.Key.TheVariants.{Listen, Writer}
use Rattle.cd_outside.specs.declared.holder.Holder.{Holder}
use Rattle.cd_outside.specs.declared.holder.Pair.{Pair}
use Rattle.cd_outside.specs.Keys.{key_eq, bool_eq, holder_eq, has_key, keys_in, keys_of, without_holder, pairs_for, fresh_keys}

pub and-left : (a b : Bool) → (a && b) ≡ true → a ≡ true
and-left true b e = refl
and-left false b e = e

pub and-right : (a b : Bool) → (a && b) ≡ true → b ≡ true
and-right true b e = e
and-right false b e = cc

bool_eq-true : (a b : Bool) → bool_eq a b ≡ true → a ≡ b
bool_eq-true true b e = sym e
bool_eq-true false true e = cc
bool_eq-true false false e = refl

bool_eq-same : (a : Bool) → bool_eq a a ≡ true
bool_eq-same true = refl
bool_eq-same false = refl

abbrev holder : ℕ → Bool → ℕ → Holder
holder d a p = record { draft = d; app = a; place = p }

same_holder : (d e : ℕ) → d ≡ e → (a b : Bool) → a ≡ b → (p q : ℕ) → p ≡ q → holder d a p ≡ holder e b q
same_holder d e x a b y p q z = ap (λ (w : ℕ). holder w a p) x ∙ (ap (λ (w : Bool). holder e w p) y ∙ ap (λ (w : ℕ). holder e b w) z)

pub holder_eq-true : (g h : Holder) → holder_eq g h ≡ true → g ≡ h
holder_eq-true g h e =
    let d = eqb-true g.draft h.draft (and-left _ _ e) in
    let r = and-right (g.draft == h.draft) _ e in
    let a = bool_eq-true g.app h.app (and-left _ _ r) in
    let p = eqb-true g.place h.place (and-right (bool_eq g.app h.app) _ r) in
    same_holder g.draft h.draft d g.app h.app a g.place h.place p

pub holder_eq-same : (h : Holder) → holder_eq h h ≡ true
holder_eq-same h = rw (eq-eqb h.draft h.draft refl, bool_eq-same h.app, eq-eqb h.place h.place refl) refl

bytes_eq-same : (xs : List ℕ) → bytes_eq xs xs ≡ true
bytes_eq-same xs = (bytes_eq-Decides xs xs).1 refl

pub keys_in-append : (ps qs : List Pair) → keys_in (ps ++ qs) ≡ keys_in ps ++ keys_in qs
keys_in-append [] qs = refl
keys_in-append (p ∷ ps) qs = ap (λ z. p.key ∷ z) (keys_in-append ps qs)

pub keys_in-pairs_for : (h : Holder) (ks : List Key) → keys_in (pairs_for h ks) ≡ ks
keys_in-pairs_for h [] = refl
keys_in-pairs_for h (k ∷ ks) = ap (λ z. k ∷ z) (keys_in-pairs_for h ks)

pub pairs_for-append : (h : Holder) (ks ls : List Key) → pairs_for h (ks ++ ls) ≡ pairs_for h ks ++ pairs_for h ls
pairs_for-append h [] ls = refl
pairs_for-append h (k ∷ ks) ls = ap (λ z. record { key = k; holder = h } ∷ z) (pairs_for-append h ks ls)

pick : (b : Bool) (k : Key) (xs ys : List Key) → cond b (xs ++ ys) (k ∷ (xs ++ ys)) ≡ cond b xs (k ∷ xs) ++ ys
pick true k xs ys = refl
pick false k xs ys = refl

-- those of a list whose later part comes behind its earlier part
pub fresh_keys-append : (had ks ls : List Key) → fresh_keys had (ks ++ ls) ≡ fresh_keys had ks ++ fresh_keys (had ++ ks) ls
fresh_keys-append had [] ls = ap (λ z. fresh_keys z ls) (sym (append-nil had))
fresh_keys-append had (k ∷ ks) ls =
    let rest : fresh_keys (had ++ k ∷ []) (ks ++ ls) ≡ fresh_keys (had ++ k ∷ []) ks ++ fresh_keys (had ++ k ∷ ks) ls = fresh_keys-append (had ++ k ∷ []) ks ls ∙ ap (λ z. fresh_keys (had ++ k ∷ []) ks ++ fresh_keys z ls) (append_assoc had (k ∷ []) ks) in
    ap (λ z. cond (has_key k had) z (k ∷ z)) rest ∙ pick (has_key k had) k (fresh_keys (had ++ k ∷ []) ks) (fresh_keys (had ++ k ∷ ks) ls)

or-assoc : (a b c : Bool) → ((a || b) || c) ≡ (a || (b || c))
or-assoc true b c = refl
or-assoc false b c = refl

or-turn : (a b c : Bool) → (a || (b || c)) ≡ (b || (a || c))
or-turn true true c = refl
or-turn true false c = refl
or-turn false b c = refl

pub has_key-append : (k : Key) (ks ls : List Key) → has_key k (ks ++ ls) ≡ (has_key k ks || has_key k ls)
has_key-append k [] ls = refl
has_key-append k (j ∷ ks) ls = ap (λ z. key_eq k j || z) (has_key-append k ks ls) ∙ sym (or-assoc (key_eq k j) (has_key k ks) (has_key k ls))

split : (k : Key) (h : Holder) (p : Pair) (ps : List Pair) (b : Bool) → has_key k (keys_in ps) ≡ (has_key k (keys_in (without_holder h ps)) || has_key k (keys_of h ps))
    → (key_eq k p.key || has_key k (keys_in ps)) ≡ (has_key k (keys_in (cond b (without_holder h ps) (p ∷ without_holder h ps))) || has_key k (cond b (p.key ∷ keys_of h ps) (keys_of h ps)))
split k h p ps true e = ap (λ z. key_eq k p.key || z) e ∙ or-turn (key_eq k p.key) (has_key k (keys_in (without_holder h ps))) (has_key k (keys_of h ps))
split k h p ps false e = ap (λ z. key_eq k p.key || z) e ∙ sym (or-assoc (key_eq k p.key) (has_key k (keys_in (without_holder h ps))) (has_key k (keys_of h ps)))

split_key : (k : Key) (h : Holder) (ps : List Pair) → has_key k (keys_in ps) ≡ (has_key k (keys_in (without_holder h ps)) || has_key k (keys_of h ps))
split_key k h [] = refl
split_key k h (p ∷ ps) = split k h p ps (holder_eq h p.holder) (split_key k h ps)

-- a key has a pair of this holder or of another
pub has_key-split : (k : Key) (h : Holder) (ps : List Pair) → has_key k (keys_in ps) ≡ has_key k (keys_in (without_holder h ps) ++ keys_of h ps)
has_key-split k h ps = split_key k h ps ∙ sym (has_key-append k (keys_in (without_holder h ps)) (keys_of h ps))

none : (p : Pair) (h : Holder) (ps : List Pair) (b : Bool) → (keys_of h ps ≡ [] → without_holder h ps ≡ ps) → cond b (p.key ∷ keys_of h ps) (keys_of h ps) ≡ [] → cond b (without_holder h ps) (p ∷ without_holder h ps) ≡ p ∷ ps
none p h ps true rec e = cc
none p h ps false rec e = ap (λ z. p ∷ z) (rec e)

-- a holder without a key has no pair
pub without_none : (h : Holder) (ps : List Pair) → keys_of h ps ≡ [] → without_holder h ps ≡ ps
without_none h [] e = refl
without_none h (p ∷ ps) e = none p h ps (holder_eq h p.holder) (without_none h ps) e

pub key_eq-same : (k : Key) → key_eq k k ≡ true
key_eq-same (Listen a) = rw (bytes_eq-same a.host, eq-eqb a.port a.port refl) refl
key_eq-same (Writer a) = bytes_eq-same a

other : (b : Bool) (p : Pair) (ps qs : List Pair) → ps ≡ qs → cond (not b) (p ∷ ps) ps ≡ cond b qs (p ∷ qs)
other true p ps qs e = e
other false p ps qs e = ap (λ z. p ∷ z) e

-- what a filter of the holders keeps
pub filter-without : (h : Holder) (ps : List Pair) → filter (λ p. not (holder_eq h p.holder)) ps ≡ without_holder h ps
filter-without h [] = refl
filter-without h (p ∷ ps) = other (holder_eq h p.holder) p (filter (λ q. not (holder_eq h q.holder)) ps) (without_holder h ps) (filter-without h ps)
