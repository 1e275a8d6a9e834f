-- How an instance takes its keys, and gives them back.
use Rattle.std.specs.Prelude.{◌≡◌, ℕ, false, List, [], ◌∷◌, ◌++◌, map, reverse, cond, IfSome, Option, Some, None, Result, Ok, Err}
use Rattle.cd_outside.specs.declared.key.Key.{Key}
use Rattle.cd_outside.specs.declared.holder.Holder.{Holder}
use Rattle.cd_outside.specs.declared.holder.Pair.{Pair}
use Rattle.cd_outside.specs.declared.fixtures.FixtureCall.{FixtureCall}
use Rattle.cd_outside.specs.declared.fixtures.FixtureCall.TheVariants.{NotOpened, Closed}
use Rattle.cd_outside.specs.Keys.{has_key, keys_in, keys_of, pairs_for, without_holder, holder_eq, fresh_keys}
use Rattle.cd_outside.specs.FixtureCall.{CallsGrow}
use Rattle.cd_pool.specs.declared.lease.Leased.{Leased}
use Rattle.cd_pool.specs.Pairs.{pairs, leases_of}
use Rattle.cd_legal.specs.Calls.{takings, givings, failing}

-- one key is taken, and opened where it had no pair; or it could not be opened
abbrev pub Acquires : Key → Holder → List Leased → List Leased → Option (List FixtureCall) → Option (List FixtureCall) → Result ℕ Key → Type 0
Acquires key h old new before after (Ok lease) =
    (new ≡ old ++ record { number = lease; pair = record { key = key; holder = h } } ∷ []) × CallsGrow before (takings (pairs old) (key ∷ [])) after
Acquires key h old new before after (Err failed) =
    (failed ≡ key) × (new ≡ old) × (has_key key (keys_in (pairs old)) ≡ false) × CallsGrow before (NotOpened key ∷ []) after

-- the key that could not be opened, if one could not
abbrev pub failed_of : Result (Unit {0}) Key → Option Key
failed_of (Ok u) = None
failed_of (Err key) = Some key

abbrev pub failed_in : {A : Type 0} → Result A Key → Option Key
failed_in (Ok x) = None
failed_in (Err key) = Some key

-- these keys were taken, from the first on
pub record Taken (h : Holder) (done : List Key) (old new : List Leased) (more : List FixtureCall) (before after : Option (List FixtureCall)) (numbers : List ℕ) : Type 0 where
  pub added : pairs new ≡ pairs old ++ pairs_for h done
  pub calls : CallsGrow before (takings (pairs old) done ++ more) after
  pub leases : numbers ≡ leases_of h new
  pub others : (g : Holder) → holder_eq g h ≡ false → leases_of g new ≡ leases_of g old

-- all keys were taken; or those before one that nobody has and that could not be opened
abbrev pub Ends : List Key → List Key → List Leased → Result (Unit {0}) Key → Type 0
Ends keys done old (Ok u) = keys ≡ done
Ends keys done old (Err key) = (rest : List Key) × (keys ≡ done ++ key ∷ rest) × (has_key key (keys_in (pairs old) ++ done) ≡ false)

abbrev pub Takes : List Key → Holder → List Leased → List Leased → Option (List FixtureCall) → Option (List FixtureCall) → List ℕ → Result (Unit {0}) Key → Type 0
Takes keys h old new before after leases result = (done : List Key) × Ends keys done old result × Taken h done old new (failing (failed_of result)) before after leases

-- the keys that were given back, from the last on
pub record Given (h : Holder) (back : List Key) (old new : List Leased) (before after : Option (List FixtureCall)) (numbers : List ℕ) : Type 0 where
  pub keys : keys_of h (pairs old) ≡ keys_of h (pairs new) ++ back
  pub rest : without_holder h (pairs new) ≡ without_holder h (pairs old)
  pub calls : CallsGrow before (map (λ k. Closed k) (reverse (fresh_keys (keys_in (without_holder h (pairs old)) ++ keys_of h (pairs new)) back))) after
  pub leases : numbers ≡ leases_of h new
  pub others : (g : Holder) → holder_eq g h ≡ false → leases_of g new ≡ leases_of g old

-- one is given back, and its key closed where nobody else has it
abbrev pub Releases : Option Pair → List Leased → Option (List FixtureCall) → Option (List FixtureCall) → Type 0
Releases pair new before after = IfSome pair (λ p. CallsGrow before (cond (has_key p.key (keys_in (pairs new))) [] (Closed p.key ∷ [])) after)

-- all were given back
pub record Gives (h : Holder) (old new : List Leased) (before after : Option (List FixtureCall)) : Type 0 where
  pub left : pairs new ≡ without_holder h (pairs old)
  pub calls : CallsGrow before (givings h (pairs old)) after
  pub none : leases_of h new ≡ []
  pub others : (g : Holder) → holder_eq g h ≡ false → leases_of g new ≡ leases_of g old
