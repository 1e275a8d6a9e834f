-- The keys that the code finds of an instance or an app.
use Rattle.std.proofs.Common.{◌≡◌, ℕ, zero, suc, List, [], ◌∷◌, refl, slice_get, Some, None}
use Rattle.cd_outside.specs.declared.key.Key.{Key}
use Rattle.cd_legal.specs.State.{keys_at}

-- the keys at a place
pub keys_there : (all : List (List Key)) (i : ℕ) (keys : List Key) → slice_get all i ≡ Some keys → keys_at all i ≡ keys
keys_there [] i keys e = cc
keys_there (ks ∷ all) zero keys e = let same : ks ≡ keys = cc in same
keys_there (ks ∷ all) (suc i) keys e = keys_there all i keys e

-- no key past the end
pub keys_nowhere : (all : List (List Key)) (i : ℕ) → slice_get all i ≡ None → keys_at all i ≡ []
keys_nowhere [] i e = refl
keys_nowhere (ks ∷ all) zero e = absurd (let no : Some ks ≡ None = e in cc)
keys_nowhere (ks ∷ all) (suc i) e = keys_nowhere all i e
