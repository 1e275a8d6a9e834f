-- Part of the main theorem.
-- When keys and holders are the same, and which keys a list of pairs has.
use Rattle.std.specs.Prelude.{ℕ, ◌+◌, ◌==◌, Bool, true, false, ◌&&◌, ◌||◌, not, List, [], ◌∷◌, ◌++◌, bytes_eq, cond, map}
use Rattle.cd_outside.specs.declared.key.Key.{Key}
use Rattle.cd_outside.specs.declared.key.Key.TheVariants.{Listen, Writer}
use Rattle.cd_outside.specs.declared.holder.Holder.{Holder}
use Rattle.cd_outside.specs.declared.holder.Pair.{Pair}

-- the same kind, and the same address or the same name
abbrev pub key_eq : Key → Key → Bool
key_eq (Listen a) (Listen b) = bytes_eq a.host b.host && (a.port == b.port)
key_eq (Listen a) (Writer b) = false
key_eq (Writer a) (Listen b) = false
key_eq (Writer a) (Writer b) = bytes_eq a b

-- the same truth value
abbrev pub bool_eq : Bool → Bool → Bool
bool_eq true b = b
bool_eq false b = not b

-- the same instance, or the same app, of the same draft
abbrev pub holder_eq : Holder → Holder → Bool
holder_eq g h = (g.draft == h.draft) && (bool_eq g.app h.app && (g.place == h.place))

-- the key is among these
abbrev pub has_key : Key → List Key → Bool
has_key key [] = false
has_key key (k ∷ ks) = key_eq key k || has_key key ks

-- the keys of the pairs, in their order
abbrev pub keys_in : List Pair → List Key
keys_in ps = map (λ p. p.key) ps

-- the keys of one holder, in the order in which it took them
abbrev pub keys_of : Holder → List Pair → List Key
keys_of h [] = []
keys_of h (p ∷ ps) = cond (holder_eq h p.holder) (p.key ∷ keys_of h ps) (keys_of h ps)

-- the pairs of all others
abbrev pub without_holder : Holder → List Pair → List Pair
without_holder h [] = []
without_holder h (p ∷ ps) = cond (holder_eq h p.holder) (without_holder h ps) (p ∷ without_holder h ps)

-- one holder's pairs of these keys
abbrev pub pairs_for : Holder → List Key → List Pair
pairs_for h ks = map (λ k. record { key = k; holder = h }) ks

-- how many pairs have the key
abbrev pub key_count : Key → List Pair → ℕ
key_count key [] = 0
key_count key (p ∷ ps) = cond (key_eq key p.key) (1 + key_count key ps) (key_count key ps)

-- the keys that nobody had before, each at its first place: those that are opened where all are taken in order, and from
-- the last to the first those that are closed where all are given back in reverse
abbrev pub fresh_keys : List Key → List Key → List Key
fresh_keys had [] = []
fresh_keys had (k ∷ ks) = cond (has_key k had) (fresh_keys (had ++ k ∷ []) ks) (k ∷ fresh_keys (had ++ k ∷ []) ks)
